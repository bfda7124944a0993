-- A text is an address exactly where std's grammar has it, it is ASCII, and it is one address at most.
use Rattle.std.proofs.Common.{◌≡◌, ℕ, ◌+◌, ◌-◌, ◌*◌, ◌/◌, ◌%◌, ◌<◌, ◌≤◌, Bool, true, false, List, [], ◌∷◌, ◌++◌, length, replicate, All, refl, sym, ap, ◌∙◌, subst, arith, inl, inr, append-nil, length-append, Some, lit<}
use Rattle.std.specs.Prelude.{◌⊎◌, IsTrue}
use Rattle.std.specs.Int.{w32, w128, from_be_bytes}
use Rattle.std.specs.List.{join_with_byte}
use Rattle.std.specs.Str.{IsAscii, IsUtf8}
use Rattle.std.specs.Str.Parse.{AllDigits, digits_value}
use Rattle.std.specs.Char.{digit_value}
use Rattle.std.specs.Net.Addr.{segments_of, octets_of, ipv4_bits, ipv6_bits, ipv4_octets, ipv6_segments}
use Rattle.std.specs.Net.Grammar.{IsDotted, IsGroupsAfter, IsGroups, IsElided, IsColonHex, IsIpText}
use Rattle.std.specs.declared.net.ip_addr.IpAddr.{IpAddr}
use Rattle.std.specs.declared.net.ip_addr.IpAddr.TheVariants as Ip
use Rattle.std.proofs.lemmas.List.Elements.{All-nil, All-cons, All-head, All-tail, All-push, All-weaker}
use Rattle.std.proofs.lemmas.Str.{IsAscii-append, chars-IsAscii, IsUtf8-from_ascii}
use Rattle.std.proofs.lemmas.Str.Ascii.{IsAscii-nil, IsAscii-cons}
use Rattle.std.proofs.lemmas.Fmt.{IsAscii-decimal}
use Rattle.std.proofs.lemmas.Bool.Decides.{nat_tests}
use Rattle.std.proofs.NetLemmas.Arrays.{eight_items}
use Rattle.std.proofs.NetLemmas.Theorems.{IsIpText_unique}
use lib.ListN.{length-replicate}
use Rattle.cfg_base.specs.declared.address.Address.{Address}
use Rattle.cfg_base.specs.declared.address.Address.TheVariants.{V4, V6}
use Rattle.cfg_base.specs.Text.{characters}
use Rattle.cfg_base.proofs.TextLemmas.{characters-chars, same_chars}
use Rattle.cfg_base.specs.Addresses.{IsIpv4Text, IsGroup, pieces, AreGroups, EndInIpv4, AreLastGroups, AreCompressed, number_of, IsAddress}

-- ---- numbers

octets_number : (a b c d : ℕ) → from_be_bytes w32 (a ∷ b ∷ c ∷ d ∷ []) ≡ ((a * 256 + b) * 256 + c) * 256 + d
octets_number a b c d = omega arith

pieces_number : (a b c d e f g h : ℕ) → from_be_bytes w128 (octets_of (a ∷ b ∷ c ∷ d ∷ e ∷ f ∷ g ∷ h ∷ [])) ≡ number_of (a ∷ b ∷ c ∷ d ∷ e ∷ f ∷ g ∷ h ∷ [])
pieces_number a b c d e f g h = omega arith

eight_number : (values : List ℕ) → length values ≡ 8 → from_be_bytes w128 (octets_of values) ≡ number_of values
eight_number values e =
    let items = eight_items values e in
    ap (λ (xs : List ℕ). from_be_bytes w128 (octets_of xs)) items ∙ pieces_number _ _ _ _ _ _ _ _ ∙ sym (ap number_of items)

high : (a b c d : ℕ) → c < 256 → d < 256 → (((a * 256 + b) * 256 + c) * 256 + d) / 65536 ≡ a * 256 + b
high a b c d p q = omega arith

low : (a b c d : ℕ) → c < 256 → d < 256 → (((a * 256 + b) * 256 + c) * 256 + d) % 65536 ≡ c * 256 + d
low a b c d p q = omega arith

-- ---- version 4

from_dotted : (text octets : List ℕ) → IsDotted text octets → IsIpv4Text text (from_be_bytes w32 octets)
from_dotted text octets h = record {
  a = h.a;
  b = h.b;
  c = h.c;
  d = h.d;
  below = h.fit;
  spelled = h.spelled;
  value = ap (from_be_bytes w32) h.value ∙ octets_number h.a h.b h.c h.d;
}

to_dotted : (text : List ℕ) (number : ℕ) (h : IsIpv4Text text number) → IsDotted text (h.a ∷ h.b ∷ h.c ∷ h.d ∷ [])
to_dotted text number h = record { a = h.a; b = h.b; c = h.c; d = h.d; fit = h.below; value = refl; spelled = h.spelled }

-- the two halves of the number are the two segments
halves : (text : List ℕ) (number : ℕ) (h : IsIpv4Text text number) → segments_of (h.a ∷ h.b ∷ h.c ∷ h.d ∷ []) ≡ (number / 65536) ∷ (number % 65536) ∷ []
halves text number h =
    let upper : number / 65536 ≡ h.a * 256 + h.b = ap (λ n. n / 65536) h.value ∙ high h.a h.b h.c h.d h.below.2 h.below.3 in
    let lower : number % 65536 ≡ h.c * 256 + h.d = ap (λ n. n % 65536) h.value ∙ low h.a h.b h.c h.d h.below.2 h.below.3 in
    cc

-- ---- groups

-- each group behind a colon
led : List (List ℕ) → List ℕ
led [] = []
led (g ∷ gs) = 58 ∷ (g ++ led gs)

join-led : (g : List ℕ) (gs : List (List ℕ)) → join_with_byte 58 (g ∷ gs) ≡ g ++ led gs
unfolding led
join-led g [] = sym (append-nil g)
join-led g (x ∷ gs) = ap (λ (t : List ℕ). g ++ 58 ∷ t) (join-led x gs)

groups_after : (ipv4 : Bool) (gs : List (List ℕ)) → All IsGroup gs → IsGroupsAfter ipv4 (58 ∷ []) (led gs) (pieces gs)
unfolding led
groups_after ipv4 [] all = refl
groups_after ipv4 (g ∷ gs) all =
    let first = All-head IsGroup g gs all in
    inl (g, led gs, refl, ((first.0, refl), first.1), groups_after ipv4 gs (All-tail IsGroup g gs all))

ipv4_after : (gs : List (List ℕ)) (last : List ℕ) (a b c d : ℕ) → All IsGroup gs → IsDotted last (a ∷ b ∷ c ∷ d ∷ []) → IsGroupsAfter true (58 ∷ []) (led (gs ++ last ∷ [])) (pieces gs ++ segments_of (a ∷ b ∷ c ∷ d ∷ []))
unfolding led
ipv4_after [] last a b c d all dotted = inr (last, a ∷ b ∷ c ∷ d ∷ [], refl, ap (λ (t : List ℕ). 58 ∷ t) (append-nil last), dotted, refl)
ipv4_after (g ∷ gs) last a b c d all dotted =
    let first = All-head IsGroup g gs all in
    inl (g, led (gs ++ last ∷ []), refl, ((first.0, refl), first.1), ipv4_after gs last a b c d (All-tail IsGroup g gs all) dotted)

groups_from : (ipv4 : Bool) (gs : List (List ℕ)) → All IsGroup gs → IsGroups ipv4 (join_with_byte 58 gs) (pieces gs)
groups_from ipv4 [] all = refl
groups_from ipv4 (g ∷ gs) all =
    let first = All-head IsGroup g gs all in
    inl (g, led gs, join-led g gs, ((first.0, refl), first.1), groups_after ipv4 gs (All-tail IsGroup g gs all))

ipv4_from : (gs : List (List ℕ)) (last : List ℕ) (a b c d : ℕ) → All IsGroup gs → IsDotted last (a ∷ b ∷ c ∷ d ∷ []) → IsGroups true (join_with_byte 58 (gs ++ last ∷ [])) (pieces gs ++ segments_of (a ∷ b ∷ c ∷ d ∷ []))
ipv4_from [] last a b c d all dotted = inr (last, a ∷ b ∷ c ∷ d ∷ [], refl, refl, dotted, refl)
ipv4_from (g ∷ gs) last a b c d all dotted =
    let first = All-head IsGroup g gs all in
    inl (g, led (gs ++ last ∷ []), join-led g (gs ++ last ∷ []), ((first.0, refl), first.1), ipv4_after gs last a b c d (All-tail IsGroup g gs all) dotted)

to_groups : (ipv4 : Bool) (text values : List ℕ) → AreGroups text values → IsGroups ipv4 text values
to_groups ipv4 text values h = rw (h.joined, h.stand_for) (groups_from ipv4 h.groups h.each)

to_ipv4_groups : (text values : List ℕ) → EndInIpv4 text values → IsGroups true text values
to_ipv4_groups text values h =
    let f = h.last_is in
    rw (h.joined, h.stand_for, ← halves h.last h.number f) (ipv4_from h.groups h.last f.a f.b f.c f.d h.each (to_dotted h.last h.number f))

to_last_groups : (text values : List ℕ) → AreLastGroups text values → IsGroups true text values
to_last_groups text values (inl h) = to_groups true text values h
to_last_groups text values (inr h) = to_ipv4_groups text values h

-- the same, read back
abbrev Plain : (List (List ℕ) → List ℕ) → List ℕ → List ℕ → Type 0
Plain join text values = (gs : List (List ℕ)) × All IsGroup gs × (text ≡ join gs) × (values ≡ pieces gs)

abbrev Mixed : (List (List ℕ) → List ℕ) → List ℕ → List ℕ → Type 0
Mixed join text values = (gs : List (List ℕ)) × (last : List ℕ) × (number : ℕ) × All IsGroup gs × IsIpv4Text last number × (text ≡ join (gs ++ last ∷ [])) × (values ≡ pieces gs ++ (number / 65536) ∷ (number % 65536) ∷ [])

abbrev Read : Bool → (List (List ℕ) → List ℕ) → List ℕ → List ℕ → Type 0
Read ipv4 join text values = Plain join text values ⊎ (IsTrue ipv4 × Mixed join text values)

module _ (join : List (List ℕ) → List ℕ) (lead : List ℕ) (joins : (g : List ℕ) (gs : List (List ℕ)) → join (g ∷ gs) ≡ lead ++ g ++ led gs) where
  one_more : (ipv4 : Bool) (text group rest : List ℕ) (value : ℕ) (values : List ℕ) → text ≡ lead ++ group ++ rest → IsGroup group → digits_value 16 group ≡ value → Read ipv4 led rest values → Read ipv4 join text (value ∷ values)
  one_more ipv4 text group rest value values is g v (inl h) =
      inl (group ∷ h.0, All-cons IsGroup group h.0 g h.1, is ∙ ap (λ (t : List ℕ). lead ++ group ++ t) h.2 ∙ sym (joins group h.0), cc)
  one_more ipv4 text group rest value values is g v (inr h) =
      inr (h.0, (group ∷ h.1.0, h.1.1, h.1.2, All-cons IsGroup group h.1.0 g h.1.3, h.1.4, is ∙ ap (λ (t : List ℕ). lead ++ group ++ t) h.1.5 ∙ sym (joins group (h.1.0 ++ h.1.1 ∷ [])), cc))

  last_two : (text last octets values : List ℕ) → text ≡ lead ++ last → IsDotted last octets → values ≡ segments_of octets → Read true join text values
  unfolding led from_dotted
  last_two text last eight_bits values is dotted e =
      let four = from_dotted last eight_bits dotted in
      let ends : lead ++ last ≡ lead ++ last ++ led [] = sym (append-nil (lead ++ last)) in
      let joined : lead ++ last ++ led [] ≡ join (last ∷ []) = sym (joins last []) in
      inr (refl, ([], last, from_be_bytes w32 eight_bits, All-nil IsGroup, four, is ∙ ends ∙ joined, e ∙ ap segments_of dotted.value ∙ halves last _ four))

read_after : (ipv4 : Bool) (values text : List ℕ) → IsGroupsAfter ipv4 (58 ∷ []) text values → Read ipv4 led text values
unfolding led
read_after ipv4 [] text h = inl ([], All-nil IsGroup, h, refl)
read_after ipv4 (s ∷ values) text (inl h) = one_more led (58 ∷ []) (λ g gs. refl) ipv4 text h.0 h.1 s values h.2 (h.3.0.0, h.3.1) h.3.0.1 (read_after ipv4 values h.1 h.4)
read_after true (s ∷ values) text (inr h) = last_two led (58 ∷ []) (λ g gs. refl) text h.0 h.1 (s ∷ values) h.3 h.4 h.5
read_after false (s ∷ values) text (inr h) = cc h.2

read_groups : (ipv4 : Bool) (values text : List ℕ) → IsGroups ipv4 text values → Read ipv4 (join_with_byte 58) text values
read_groups ipv4 [] text h = inl ([], All-nil IsGroup, h, refl)
read_groups ipv4 (s ∷ values) text (inl h) = one_more (join_with_byte 58) [] join-led ipv4 text h.0 h.1 s values h.2 (h.3.0.0, h.3.1) h.3.0.1 (read_after ipv4 values h.1 h.4)
read_groups true (s ∷ values) text (inr h) = last_two (join_with_byte 58) [] join-led text h.0 h.1 (s ∷ values) h.3 h.4 h.5
read_groups false (s ∷ values) text (inr h) = cc h.2

plain_groups : (text values : List ℕ) → Plain (join_with_byte 58) text values → AreGroups text values
plain_groups text values h = record { groups = h.0; each = h.1; joined = h.2; stand_for = h.3 }

are_groups : (text values : List ℕ) → Read false (join_with_byte 58) text values → AreGroups text values
are_groups text values (inl h) = plain_groups text values h
are_groups text values (inr h) = cc h.0

are_last_groups : (text values : List ℕ) → Read true (join_with_byte 58) text values → AreLastGroups text values
are_last_groups text values (inl h) = inl (plain_groups text values h)
are_last_groups text values (inr h) = let m = h.1 in
    inr (record { groups = m.0; last = m.1; number = m.2; each = m.3; last_is = m.4; joined = m.5; stand_for = m.6 })

-- ---- version 6

length-pressed : (first last : List ℕ) (n : ℕ) → length (first ++ replicate n 0 ++ last) ≡ length first + n + length last
length-pressed first last n = simp (length-append, length-replicate)

to_elided : (text values : List ℕ) → AreCompressed text values → length values ≡ 8 → IsElided text values
to_elided text values h eight =
    let long : length values ≡ length h.first + h.zeros + length h.last = ap length h.stand_for ∙ length-pressed h.first h.last h.zeros in
    let some : 1 ≤ h.zeros = h.some in
    let count : h.zeros ≡ 8 - length h.first - length h.last = omega arith in
    record {
      head_text = h.before;
      tail_text = h.after;
      head = h.first;
      tail = h.last;
      spelled = h.spelled;
      head_groups = to_groups false h.before h.first h.before_groups;
      tail_groups = to_last_groups h.after h.last h.after_groups;
      room = omega arith;
      value = h.stand_for ∙ ap (λ (n : ℕ). h.first ++ replicate n 0 ++ h.last) count;
    }

from_elided : (text values : List ℕ) → IsElided text values → AreCompressed text values
from_elided text values h = record {
  before = h.head_text;
  after = h.tail_text;
  first = h.head;
  zeros = 8 - length h.head - length h.tail;
  last = h.tail;
  spelled = h.spelled;
  before_groups = are_groups h.head_text h.head (read_groups false h.head h.head_text h.head_groups);
  after_groups = are_last_groups h.tail_text h.tail (read_groups true h.tail h.tail_text h.tail_groups);
  some = (let room = h.room in omega arith);
  stand_for = h.value;
}

length-elided : (text values : List ℕ) → IsElided text values → length values ≡ 8
length-elided text values h =
    let room = h.room in
    let long = ap length h.value ∙ length-pressed h.head h.tail (8 - length h.head - length h.tail) in
    omega arith

to_colon_hex : (text values : List ℕ) → AreLastGroups text values ⊎ AreCompressed text values → length values ≡ 8 → IsColonHex text values
to_colon_hex text values (inl h) eight = inl (to_last_groups text values h, eight)
to_colon_hex text values (inr h) eight = inr (to_elided text values h eight)

from_colon_hex : (text values : List ℕ) → IsColonHex text values → (AreLastGroups text values ⊎ AreCompressed text values) × (length values ≡ 8)
from_colon_hex text values (inl h) = (inl (are_last_groups text values (read_groups true values text h.0)), h.1)
from_colon_hex text values (inr h) = (inr (from_elided text values h), length-elided text values h)

-- ---- both

abbrev pub address_of : IpAddr → Address
address_of (Ip.V4 ip) = V4 (ipv4_bits ip)
address_of (Ip.V6 ip) = V6 (ipv6_bits ip)

from_ip_text : (text : List ℕ) (ip : IpAddr) → IsIpText text ip → IsAddress text (address_of ip)
unfolding ipv4_bits ipv6_bits
from_ip_text text (Ip.V4 ip) h = from_dotted text (ipv4_octets ip) h
from_ip_text text (Ip.V6 ip) h =
    let parts = from_colon_hex text (ipv6_segments ip) h in
    record { values = ipv6_segments ip; groups = parts.0; eight = parts.1; value = eight_number (ipv6_segments ip) parts.1 }

to_ip_text : (text : List ℕ) (address : Address) → IsAddress text address → (ip : IpAddr) × IsIpText text ip × (address_of ip ≡ address)
unfolding ipv4_bits ipv6_bits
to_ip_text text (V4 number) h =
    (Ip.V4 (record { octets = h.a ∷ h.b ∷ h.c ∷ h.d ∷ [] }), to_dotted text number h, ap V4 (octets_number h.a h.b h.c h.d ∙ sym h.value))
to_ip_text text (V6 number) h =
    (Ip.V6 (record { segments = h.values }), to_colon_hex text h.values h.groups h.eight, ap V6 (eight_number h.values h.eight ∙ sym h.value))

pub one_address : (text : List ℕ) (a b : Address) → IsAddress text a → IsAddress text b → a ≡ b
one_address text a b h k =
    let left = to_ip_text text a h in
    let right = to_ip_text text b k in
    sym left.2 ∙ ap address_of (IsIpText_unique text left.0 right.0 left.1 right.1) ∙ right.2

-- ---- ASCII

hexadecimal : (c : ℕ) → digit_value c < 16 → c < 128
hexadecimal c h = grind (arith, nat_tests)

IsAscii-digits : (ds : List ℕ) → AllDigits 16 ds → IsAscii ds
IsAscii-digits [] h = IsAscii-nil
IsAscii-digits (c ∷ ds) h = IsAscii-cons c ds (hexadecimal c h.0) (IsAscii-digits ds h.1)

IsAscii-ipv4 : (text : List ℕ) (number : ℕ) → IsIpv4Text text number → IsAscii text
IsAscii-ipv4 text number h =
    let a = IsAscii-decimal h.a (omega (arith, h.below.0)) in
    let b = IsAscii-decimal h.b (omega (arith, h.below.1)) in
    let c = IsAscii-decimal h.c (omega (arith, h.below.2)) in
    let d = IsAscii-decimal h.d (omega (arith, h.below.3)) in
    let dot = IsAscii-cons 46 [] (lit< tt) IsAscii-nil in
    subst IsAscii (sym h.spelled)
    (IsAscii-append _ _ (IsAscii-append _ _ (IsAscii-append _ _ (IsAscii-append _ _ (IsAscii-append _ _ (IsAscii-append _ _ a dot) b) dot) c) dot) d)

IsAscii-join : (gs : List (List ℕ)) → All IsAscii gs → IsAscii (join_with_byte 58 gs)
IsAscii-join [] all = IsAscii-nil
IsAscii-join (g ∷ []) all = All-head IsAscii g [] all
IsAscii-join (g ∷ x ∷ gs) all = IsAscii-append g _ (All-head IsAscii g (x ∷ gs) all) (IsAscii-cons 58 _ (lit< tt) (IsAscii-join (x ∷ gs) (All-tail IsAscii g (x ∷ gs) all)))

All-groups : (gs : List (List ℕ)) → All IsGroup gs → All IsAscii gs
All-groups gs all = All-weaker IsGroup IsAscii (λ g h. IsAscii-digits g h.0.1) gs all

IsAscii-groups : (text values : List ℕ) → AreGroups text values → IsAscii text
IsAscii-groups text values h = subst IsAscii (sym h.joined) (IsAscii-join h.groups (All-groups h.groups h.each))

IsAscii-last_groups : (text values : List ℕ) → AreLastGroups text values → IsAscii text
IsAscii-last_groups text values (inl h) = IsAscii-groups text values h
IsAscii-last_groups text values (inr h) = subst IsAscii (sym h.joined)
    (IsAscii-join _ (All-push IsAscii h.groups h.last (All-groups h.groups h.each) (IsAscii-ipv4 h.last h.number h.last_is)))

IsAscii-ipv6 : (text values : List ℕ) → AreLastGroups text values ⊎ AreCompressed text values → IsAscii text
IsAscii-ipv6 text values (inl h) = IsAscii-last_groups text values h
IsAscii-ipv6 text values (inr h) =
    let colons = IsAscii-cons 58 (58 ∷ []) (lit< tt) (IsAscii-cons 58 [] (lit< tt) IsAscii-nil) in
    subst IsAscii (sym h.spelled)
    (IsAscii-append _ _ (IsAscii-append _ _ (IsAscii-groups h.before h.first h.before_groups) colons) (IsAscii-last_groups h.after h.last h.after_groups))

IsAscii-address : (text : List ℕ) (address : Address) → IsAddress text address → IsAscii text
IsAscii-address text (V4 number) h = IsAscii-ipv4 text number h
IsAscii-address text (V6 number) h = IsAscii-ipv6 text h.values h.groups

characters-ascii : (text : List ℕ) → IsAscii text → characters text ≡ text
characters-ascii text ascii = characters-chars text ∙ chars-IsAscii text ascii

-- the characters of an address are its bytes
bytes_of : (text : List ℕ) (address : Address) → IsUtf8 text → IsAddress (characters text) address → characters text ≡ text
bytes_of text address u h =
    let ascii = IsAscii-address (characters text) address h in
    same_chars (characters text) text (IsUtf8-from_ascii (characters text) ascii) u (characters-ascii (characters text) ascii)

-- ---- what a parser of std's grammar gives

pub found : (text : List ℕ) (ip : IpAddr) (address : Address) → IsIpText text ip → address_of ip ≡ address → IsAddress (characters text) address
found text ip address h same =
    let is = subst (λ (a : Address). IsAddress text a) same (from_ip_text text ip h) in
    subst (λ (t : List ℕ). IsAddress t address) (sym (characters-ascii text (IsAscii-address text address is))) is

pub only : (text : List ℕ) (ip : IpAddr) (given : Address) → IsIpText text ip → address_of ip ≡ given → (address : Address) → IsAddress (characters text) address → Some given ≡ Some address
only text ip given h same address is = ap Some (one_address (characters text) given address (found text ip given h same) is)

pub none : (text : List ℕ) → IsUtf8 text → ((ip : IpAddr) → ¬ (IsIpText text ip)) → (address : Address) → IsAddress (characters text) address → ⊥
none text u without address h =
    let is = to_ip_text text address (subst (λ (t : List ℕ). IsAddress t address) (bytes_of text address u h) h) in
    without is.0 is.1
