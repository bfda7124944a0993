-- The address that std's readers find is the one that the text stands for.
use Rattle.std.proofs.Common.{◌≡◌, ℕ, List, [], ◌∷◌, length, Option, Some, None, refl, sym, ap, ◌∙◌, subst, arith, append-nil, lit≤, ne_eqb}
use Rattle.std.specs.Prelude.{IfSome}
use Rattle.std.specs.Str.{IsUtf8}
use Rattle.std.specs.Net.Addr.{ipv4_octets, ipv6_segments, ipv4_bits, ipv6_bits}
use Rattle.std.specs.Net.Grammar.{IsDotted, IsColonHex, IsIpText}
use Rattle.std.specs.Net.Reader.{Read, read_ipv4, read_ipv6, whole_value}
use Rattle.std.specs.declared.net.ip_addr.IpAddr.{IpAddr}
use Rattle.std.specs.declared.net.ip_addr.IpAddr.TheVariants as Ip
use Rattle.std.proofs.NetLemmas.Ipv4.{read_ipv4_complete, read_ipv4_sound}
use Rattle.std.proofs.NetLemmas.Ipv6.{read_ipv6_complete, read_ipv6_sound}
use Rattle.cfg_base.specs.declared.address.Address.{Address}
use Rattle.cfg_base.specs.Text.{characters}
use Rattle.cfg_base.specs.Addresses.{IsAddress}
use Rattle.cfg_base.proofs.AddressLaws.{found, none}
use Rattle.cfg_script.specs.Addresses.{address_by, address_from}

longer : {A : Type 0} (x : A) (c : ℕ) (cs : List ℕ) → whole_value (Some (x, c ∷ cs)) ≡ None
longer x c cs = rw (ne_eqb (length (c ∷ cs)) 0 (omega arith)) refl

none_whole : {A : Type 0} (x : A) (c : ℕ) (cs : List ℕ) (a : A) → whole_value (Some (x, c ∷ cs)) ≡ Some a → ⊥
none_whole x c cs a e = let none = longer x c cs in cc

whole_some : {A : Type 0} (x : A) (rest : List ℕ) (a : A) → whole_value (Some (x, rest)) ≡ Some a → ◌≡◌ {A = Read A} (Some (x, rest)) (Some (a, []))
whole_some x [] a e = let is : x ≡ a = cc in ap (λ y. Some (y, [])) is
whole_some x (c ∷ cs) a e = absurd (none_whole x c cs a e)

whole_read : {A : Type 0} (r : Read A) (a : A) → whole_value r ≡ Some a → r ≡ Some (a, [])
whole_read None a e = cc
whole_read (Some p) a e = whole_some p.0 p.1 a e

four_text : (text octets : List ℕ) → whole_value (read_ipv4 text) ≡ Some octets → IsDotted text octets
four_text text octets e =
    let (front, split, dotted) = read_ipv4_sound text octets [] (whole_read (read_ipv4 text) octets e) in
    subst (λ t. IsDotted t octets) (sym (split ∙ append-nil front)) dotted

six_text : (text segments : List ℕ) → whole_value (read_ipv6 text) ≡ Some segments → IsColonHex text segments
six_text text segments e =
    let (front, split, groups) = read_ipv6_sound text segments [] (whole_read (read_ipv6 text) segments e) in
    subst (λ t. IsColonHex t segments) (sym (split ∙ append-nil front)) groups

four_read : (text octets : List ℕ) → IsDotted text octets → whole_value (read_ipv4 text) ≡ Some octets
four_read text octets h = ap whole_value (ap read_ipv4 (sym (append-nil text)) ∙ read_ipv4_complete text octets [] h (lit≤ tt))

six_read : (text segments : List ℕ) → IsColonHex text segments → whole_value (read_ipv6 text) ≡ Some segments
six_read text segments h = ap whole_value (ap read_ipv6 (sym (append-nil text)) ∙ read_ipv6_complete text segments [] h ((lit≤ tt, λ e. cc), λ e. cc))

by_some : (text : List ℕ) (four six : Option (List ℕ)) (a : Address) → whole_value (read_ipv4 text) ≡ four → whole_value (read_ipv6 text) ≡ six → address_by four six ≡ Some a → IsAddress (characters text) a
unfolding ipv4_bits ipv6_bits
by_some text (Some octets) six a e f h = found text (Ip.V4 (record { octets = octets })) a (four_text text octets e) (cc)
by_some text None (Some segments) a e f h = found text (Ip.V6 (record { segments = segments })) a (six_text text segments f) (cc)
by_some text None None a e f h = cc

by_none : (text : List ℕ) (four six : Option (List ℕ)) → whole_value (read_ipv4 text) ≡ four → whole_value (read_ipv6 text) ≡ six → address_by four six ≡ None → (ip : IpAddr) → IsIpText text ip → ⊥
by_none text (Some octets) six e f h ip is = cc
by_none text None (Some segments) e f h ip is = cc
by_none text None None e f h (Ip.V4 ip) is = let some = four_read text (ipv4_octets ip) is in cc
by_none text None None e f h (Ip.V6 ip) is = let some = six_read text (ipv6_segments ip) is in cc

same_read : (text : List ℕ) → IsUtf8 text → (o r : Option Address) → address_from text ≡ o → IfSome r (IsAddress (characters text)) → ((a : Address) → IsAddress (characters text) a → r ≡ Some a) → r ≡ o
unfolding address_from
same_read text u (Some a) r e given only = only a (by_some text _ _ a refl refl e)
same_read text u None None e given only = refl
same_read text u None (Some a) e given only = absurd (none text u (by_none text _ _ refl refl e) a given)

pub parse_is : (text : List ℕ) → IsUtf8 text → (r : Option Address) → IfSome r (IsAddress (characters text)) → ((a : Address) → IsAddress (characters text) a → r ≡ Some a) → r ≡ address_from text
parse_is text u r given only = same_read text u (address_from text) r refl given only
