-- What is written for a token is read back.
use Rattle.std.proofs.Common.{◌≡◌, inl, inr, ℕ, List, [], ◌∷◌, ◌++◌, length, map, drop, Bool, true, false, cond, Option, Some, None, refl, sym, ap, subst, ◌∙◌}
use Rattle.std.specs.Prelude.{Result, Ok, Err}
use Rattle.std.specs.Option.{option_or}
use Rattle.std.specs.Str.{IsAscii, chars, encode_utf8_all, all_scalars, str_eq_ignore_ascii_case}
use Rattle.std.proofs.lemmas.Str.{IsUtf8-from_ascii, chars-encodes, chars-IsAscii}
use Rattle.cfg_base.specs.Moment.{Moment}
use Rattle.cfg_base.specs.Text.{characters}
use Rattle.cfg_base.specs.Gives.{◌>>=◌}
use Rattle.cfg_types.specs.Field.{field_name}
use Rattle.cfg_types.specs.declared.document.Field.{Field}
use Rattle.cfg_types.specs.declared.document.Field.TheVariants as field
use Rattle.cfg_types.specs.declared.document.JsonError.{JsonError}
use Rattle.cfg_json.specs.declared.member.Member.{Member}
use Rattle.cfg_json.specs.declared.member.MemberValue.{MemberValue}
use Rattle.cfg_json.specs.declared.member.MemberValue.TheVariants as value
use Rattle.cfg_json.specs.Writing.{braced}
use Rattle.cfg_json.specs.WhiteSpace.{IsWhiteSpace}
use Rattle.cfg_json.specs.WrittenObjects.{WrittenObject, ToldMember, Tale, members_text, HasScalars, Nests, told_value, told_member, told}
use Rattle.cfg_json.specs.Objects.{HasObject}
use Rattle.cfg_json.specs.Lookups.{text_in}
use Rattle.cfg_json.specs.Dates.{IsWrittenDate}
use Rattle.cfg_json.specs.Documents.{date_in}
use Rattle.cfg_json.specs.Answers.{Answers, MemberList, OnlyWhiteSpaceFrom, only_list_answer}
use Rattle.cfg_json.proofs.AnswerLaws.{only_only_is}
use Rattle.cfg_json.proofs.WrittenObjectLaws.{written_object}
use Rattle.cfg_json.proofs.DatesWritten.{written_stands}
use Rattle.cfg_json.proofs.DatesTake.{time_ascii, reads_as}
use Rattle.cfg_token.specs.declared.sso_token.CachedSsoToken.{CachedSsoToken}
use Rattle.cfg_token.specs.SsoFile.{Read, text_under_name, text_of, required, dated, optional_date, token_of, or_fault, members_of_file, sso_file}
use Rattle.cfg_token.specs.SsoText.{with_text_if_there, dated_members, IsWrittenIfThere, IsSsoText, HasScalarsIfThere, HasTexts}
use Rattle.cfg_token.proofs.Files.{itself, same_answer, has_memory}

-- ---- what is told of members, under the name of a field

abbrev told_in : ToldMember → Option (List ℕ)
told_in (ToldMember.a_text text) = Some text
told_in ToldMember.an_object = None
told_in ToldMember.another = None

abbrev has_name : Field → List ℕ → Bool
has_name f key = str_eq_ignore_ascii_case (encode_utf8_all key) (field_name f)

abbrev told_text : Field → Tale → Option (List ℕ)
told_text f tale = cond (has_name f tale.0) (told_in tale.1) None

abbrev last_told : Field → List Tale → Option (List ℕ)
last_told f [] = None
last_told f (tale ∷ tales) = option_or (last_told f tales) (told_text f tale)

told_as_it_is : (v : MemberValue) → text_in v ≡ told_in (told_value v)
told_as_it_is (value.Text text) = refl
told_as_it_is (value.Number text) = refl
told_as_it_is (value.Object from to) = refl
told_as_it_is (value.Array has) = refl
told_as_it_is value.Other = refl

told_of : (f : Field) (ms : List Member) → text_of ms f ≡ last_told f (map told_member ms)
told_of f [] = refl
told_of f (m ∷ ms) =
    ap (λ (o : Option (List ℕ)). option_or o (text_under_name (field_name f) m)) (told_of f ms)
    ∙ ap (λ (o : Option (List ℕ)). option_or (last_told f (map told_member ms)) (cond (has_name f m.key) o None)) (told_as_it_is m.value)

or_none : {A : Type 0} (o : Option A) → option_or o None ≡ o
or_none None = refl
or_none (Some x) = refl

or_assoc : {A : Type 0} (a b c : Option A) → option_or (option_or a b) c ≡ option_or a (option_or b c)
or_assoc None b c = refl
or_assoc (Some x) b c = refl

told_push : (f : Field) (tales : List Tale) (tale : Tale) → last_told f (tales ++ tale ∷ []) ≡ option_or (told_text f tale) (last_told f tales)
told_push f [] tale = sym (or_none (told_text f tale))
told_push f (x ∷ tales) tale = ap (λ (o : Option (List ℕ)). option_or o (told_text f x)) (told_push f tales tale) ∙ or_assoc (told_text f tale) (last_told f tales) (told_text f x)

-- ---- an object with the texts of fields

abbrev with_field : Field → Option (List ℕ) → WrittenObject → WrittenObject
with_field g None w = w
with_field g (Some text) w = WrittenObject.with_text w (characters (field_name g)) text

abbrev found_under : Field → Field → Option (List ℕ) → Option (List ℕ)
found_under f g o = cond (has_name f (characters (field_name g))) o None

told_with : (f g : Field) (o : Option (List ℕ)) (w : WrittenObject) → last_told f (told (with_field g o w)) ≡ option_or (found_under f g o) (last_told f (told w))
told_with f g None w = nothing (has_name f (characters (field_name g)))
  where
    nothing : (b : Bool) → last_told f (told w) ≡ option_or (let none : Option (List ℕ) = None in cond b none None) (last_told f (told w))
    nothing true = refl
    nothing false = refl
told_with f g (Some text) w = told_push f (told w) (characters (field_name g), ToldMember.a_text text)

text_with : (g : Field) (o : Option (List ℕ)) (w : WrittenObject) → members_text (with_field g o w) ≡ with_text_if_there g o (members_text w)
text_with g None w = refl
text_with g (Some text) w = refl

scalars_with : (g : Field) (o : Option (List ℕ)) (w : WrittenObject) → all_scalars (characters (field_name g)) ≡ true → HasScalarsIfThere o → HasScalars w → HasScalars (with_field g o w)
scalars_with g None w k h s = s
scalars_with g (Some text) w k h s = (s, k, h)

nests_with : (g : Field) (o : Option (List ℕ)) (w : WrittenObject) → Nests w 127 → Nests (with_field g o w) 127
nests_with g None w n = n
nests_with g (Some text) w n = n

-- the token of these texts
abbrev table : Option (List ℕ) → Option (List ℕ) → Option (List ℕ) → Option (List ℕ) → Option (List ℕ) → Option (List ℕ) → Option (List ℕ) → Option (List ℕ) → Read CachedSsoToken
table access end registered refresh id secret region url =
    required field.AccessToken access >>= λ access.
    required field.LowerExpiresAt end >>= λ end.
    dated field.LowerExpiresAt (date_in end) >>= λ expiry.
    optional_date field.RegistrationExpiresAt registered >>= λ registration.
    Ok (record { access_token = access; expires_at = expiry; refresh_token = refresh; client_id = id; client_secret = secret; registration_expires_at = registration; region = region; start_url = url })

abbrev dated_token : CachedSsoToken → Option Moment → Read (Option Moment) → Read CachedSsoToken
dated_token token end registered =
    dated field.LowerExpiresAt end >>= λ expiry.
    registered >>= λ registration.
    Ok (record { access_token = token.access_token; expires_at = expiry; refresh_token = token.refresh_token; client_id = token.client_id; client_secret = token.client_secret; registration_expires_at = registration; region = token.region; start_url = token.start_url })

dated_is : (token : CachedSsoToken) (end : Option Moment) (registered : Read (Option Moment)) → end ≡ Some token.expires_at → registered ≡ Ok token.registration_expires_at → dated_token token end registered ≡ Ok token
dated_is token end registered e r = ap (λ (m : Option Moment). dated_token token m registered) e ∙ ap (dated_token token (Some token.expires_at)) r

table_is : (token : CachedSsoToken) (expiry : List ℕ) (access end registered refresh id secret region url : Option (List ℕ)) (registration : Option (List ℕ)) →
    access ≡ Some token.access_token → end ≡ Some expiry → registered ≡ registration → refresh ≡ token.refresh_token → id ≡ token.client_id → secret ≡ token.client_secret → region ≡ token.region → url ≡ token.start_url →
    date_in expiry ≡ Some token.expires_at → optional_date field.RegistrationExpiresAt registration ≡ Ok token.registration_expires_at → table access end registered refresh id secret region url ≡ Ok token
table_is token expiry access end registered refresh id secret region url registration a b c d f g h i e r =
    ap (λ (x : Option (List ℕ)). table x end registered refresh id secret region url) a
    ∙ ap (λ (x : Option (List ℕ)). table (Some token.access_token) x registered refresh id secret region url) b
    ∙ ap (λ (x : Option (List ℕ)). table (Some token.access_token) (Some expiry) x refresh id secret region url) c
    ∙ ap (λ (x : Option (List ℕ)). table (Some token.access_token) (Some expiry) registration x id secret region url) d
    ∙ ap (λ (x : Option (List ℕ)). table (Some token.access_token) (Some expiry) registration token.refresh_token x secret region url) f
    ∙ ap (λ (x : Option (List ℕ)). table (Some token.access_token) (Some expiry) registration token.refresh_token token.client_id x region url) g
    ∙ ap (λ (x : Option (List ℕ)). table (Some token.access_token) (Some expiry) registration token.refresh_token token.client_id token.client_secret x url) h
    ∙ ap (λ (x : Option (List ℕ)). table (Some token.access_token) (Some expiry) registration token.refresh_token token.client_id token.client_secret token.region x) i
    ∙ dated_is token (date_in expiry) (optional_date field.RegistrationExpiresAt registration) e r

module _ (token : CachedSsoToken) (expiry : List ℕ) (registration : Option (List ℕ)) where
  abbrev first_two : WrittenObject
  first_two = with_field field.LowerExpiresAt (Some expiry) (with_field field.AccessToken (Some token.access_token) WrittenObject.bare)

  abbrev refreshable : WrittenObject
  refreshable = with_field field.RefreshToken token.refresh_token first_two

  abbrev known : WrittenObject
  known = with_field field.ClientId token.client_id refreshable

  abbrev client : WrittenObject
  client = with_field field.ClientSecret token.client_secret known

  abbrev registered : WrittenObject
  registered = with_field field.RegistrationExpiresAt registration client

  abbrev placed : WrittenObject
  placed = with_field field.Region token.region registered

  abbrev whole : WrittenObject
  whole = with_field field.StartUrl token.start_url placed

  whole_text : members_text whole ≡ dated_members token expiry registration
  whole_text =
      text_with field.StartUrl token.start_url placed
      ∙ ap (with_text_if_there field.StartUrl token.start_url) (text_with field.Region token.region registered
      ∙ ap (with_text_if_there field.Region token.region) (text_with field.RegistrationExpiresAt registration client
      ∙ ap (with_text_if_there field.RegistrationExpiresAt registration) (text_with field.ClientSecret token.client_secret known
      ∙ ap (with_text_if_there field.ClientSecret token.client_secret) (text_with field.ClientId token.client_id refreshable
      ∙ ap (with_text_if_there field.ClientId token.client_id) (text_with field.RefreshToken token.refresh_token first_two)))))

  whole_scalars : HasTexts token → all_scalars expiry ≡ true → HasScalarsIfThere registration → HasScalars whole
  whole_scalars h e r =
      scalars_with field.StartUrl token.start_url placed refl h.start_url
      (scalars_with field.Region token.region registered refl h.region
      (scalars_with field.RegistrationExpiresAt registration client refl r
      (scalars_with field.ClientSecret token.client_secret known refl h.client_secret
      (scalars_with field.ClientId token.client_id refreshable refl h.client_id
      (scalars_with field.RefreshToken token.refresh_token first_two refl h.refresh_token
      ((tt, refl, h.access_token), refl, e))))))

  whole_nests : Nests whole 127
  whole_nests =
      nests_with field.StartUrl token.start_url placed
      (nests_with field.Region token.region registered
      (nests_with field.RegistrationExpiresAt registration client
      (nests_with field.ClientSecret token.client_secret known
      (nests_with field.ClientId token.client_id refreshable
      (nests_with field.RefreshToken token.refresh_token first_two tt)))))

  -- what is found under a field, from the last one to the first
  abbrev found : Field → Option (List ℕ)
  found f =
      option_or (found_under f field.StartUrl token.start_url) (option_or (found_under f field.Region token.region) (option_or (found_under f field.RegistrationExpiresAt registration)
      (option_or (found_under f field.ClientSecret token.client_secret) (option_or (found_under f field.ClientId token.client_id) (option_or (found_under f field.RefreshToken token.refresh_token)
      (option_or (found_under f field.LowerExpiresAt (Some expiry)) (option_or (found_under f field.AccessToken (Some token.access_token)) None)))))))

  abbrev or_found : Field → Field → Option (List ℕ) → Option (List ℕ) → Option (List ℕ)
  or_found f g o rest = option_or (found_under f g o) rest

  found_told : (f : Field) → last_told f (told whole) ≡ found f
  found_told f =
      told_with f field.StartUrl token.start_url placed
      ∙ ap (or_found f field.StartUrl token.start_url) (told_with f field.Region token.region registered
      ∙ ap (or_found f field.Region token.region) (told_with f field.RegistrationExpiresAt registration client
      ∙ ap (or_found f field.RegistrationExpiresAt registration) (told_with f field.ClientSecret token.client_secret known
      ∙ ap (or_found f field.ClientSecret token.client_secret) (told_with f field.ClientId token.client_id refreshable
      ∙ ap (or_found f field.ClientId token.client_id) (told_with f field.RefreshToken token.refresh_token first_two
      ∙ ap (or_found f field.RefreshToken token.refresh_token) (told_with f field.LowerExpiresAt (Some expiry) (with_field field.AccessToken (Some token.access_token) WrittenObject.bare)
      ∙ ap (or_found f field.LowerExpiresAt (Some expiry)) (told_with f field.AccessToken (Some token.access_token) WrittenObject.bare)))))))

  module _ (ms : List Member) (tells : map told_member ms ≡ told whole) where
    text_found : (f : Field) → text_of ms f ≡ found f
    text_found f = told_of f ms ∙ ap (last_told f) tells ∙ found_told f

    is_token : date_in expiry ≡ Some token.expires_at → optional_date field.RegistrationExpiresAt registration ≡ Ok token.registration_expires_at → token_of ms ≡ Ok token
    unfolding token_of lib.Utf8.encode
    is_token e r =
        let access : text_of ms field.AccessToken ≡ Some token.access_token = text_found field.AccessToken in
        let end : text_of ms field.LowerExpiresAt ≡ Some expiry = text_found field.LowerExpiresAt in
        let registered : text_of ms field.RegistrationExpiresAt ≡ registration = text_found field.RegistrationExpiresAt ∙ or_none registration in
        let refresh : text_of ms field.RefreshToken ≡ token.refresh_token = text_found field.RefreshToken ∙ or_none token.refresh_token in
        let id : text_of ms field.ClientId ≡ token.client_id = text_found field.ClientId ∙ or_none token.client_id in
        let secret : text_of ms field.ClientSecret ≡ token.client_secret = text_found field.ClientSecret ∙ or_none token.client_secret in
        let region : text_of ms field.Region ≡ token.region = text_found field.Region ∙ or_none token.region in
        let url : text_of ms field.StartUrl ≡ token.start_url = text_found field.StartUrl ∙ or_none token.start_url in
        table_is token expiry (text_of ms field.AccessToken) (text_of ms field.LowerExpiresAt) (text_of ms field.RegistrationExpiresAt) (text_of ms field.RefreshToken) (text_of ms field.ClientId) (text_of ms field.ClientSecret) (text_of ms field.Region) (text_of ms field.StartUrl) registration access end registered refresh id secret region url e r

-- ---- the dates

scalars_of_ascii : (bs : List ℕ) → IsAscii bs → all_scalars bs ≡ true
scalars_of_ascii bs h = let u = IsUtf8-from_ascii bs h in subst (λ (t : List ℕ). all_scalars t ≡ true) (sym (chars-encodes u.0 u.1.0) ∙ ap chars u.1.1 ∙ chars-IsAscii bs h) u.1.0

date_scalars : (text : List ℕ) (m : Moment) → IsWrittenDate text m → all_scalars text ≡ true
date_scalars text m h = scalars_of_ascii text (time_ascii false text m (written_stands text m h))

date_back : (text : List ℕ) (m : Moment) → IsWrittenDate text m → date_in text ≡ Some m
unfolding date_in
date_back text m h = (reads_as false text m (date_scalars text m h)).1 (written_stands text m h)

scalars_if_there : (text : Option (List ℕ)) (m : Option Moment) → IsWrittenIfThere text m → HasScalarsIfThere text
scalars_if_there None None h = tt
scalars_if_there None (Some m) h = absurd h
scalars_if_there (Some text) None h = absurd h
scalars_if_there (Some text) (Some m) h = date_scalars text m h

back_if_there : (f : Field) (text : Option (List ℕ)) (m : Option Moment) → IsWrittenIfThere text m → optional_date f text ≡ Ok m
back_if_there f None None h = refl
back_if_there f None (Some m) h = absurd h
back_if_there f (Some text) None h = absurd h
back_if_there f (Some text) (Some m) h = ap (λ (d : Option Moment). dated f d >>= λ moment. Ok (Some moment)) (date_back text m h)

-- ---- the file

-- bytes that are an object, and nothing else
only_object : (bytes : List ℕ) (list : List Member) (end : ℕ) → HasObject bytes list end → OnlyWhiteSpaceFrom bytes end → only_list_answer bytes ≡ Ok (list, end)
only_object bytes list end h white = by_answer (only_list_answer bytes) refl (only_only_is itself bytes (only_list_answer bytes) (same_answer bytes (only_list_answer bytes)) list end h white)
  where
    by_answer : (a : Result MemberList JsonError) → only_list_answer bytes ≡ a → Answers itself a (Ok (list, end)) → a ≡ Ok (list, end)
    by_answer (Ok p) is k = sym k
    by_answer (Err e) is k = elim k [
      | inl m ↦ absurd (has_memory bytes (is ∙ ap (λ (x : JsonError). let r : Result MemberList JsonError = Err x in r) m))
      | inr s ↦ sym s
    ]

nothing_left : (bytes : List ℕ) (end : ℕ) → end ≡ length bytes → OnlyWhiteSpaceFrom bytes end
nothing_left bytes end is = subst IsWhiteSpace (sym (ap (λ (n : ℕ). drop n bytes) is ∙ drop_all bytes)) tt
  where
    drop_all : (bytes : List ℕ) → drop (length bytes) bytes ≡ []
    drop_all [] = refl
    drop_all (b ∷ bytes) = drop_all bytes

file_of : (bytes : List ℕ) (list : List Member) (end : ℕ) (token : CachedSsoToken) → only_list_answer bytes ≡ Ok (list, end) → token_of list ≡ Ok token → sso_file bytes ≡ Ok token
unfolding sso_file members_of_file
file_of bytes list end token is t = ap (λ (a : Result MemberList JsonError). or_fault a >>= token_of) is ∙ t

pub written_token : (token : CachedSsoToken) (text : List ℕ) → HasTexts token → IsSsoText token text → sso_file (encode_utf8_all text) ≡ Ok token
written_token token text texts w =
    let object : WrittenObject = whole token w.expiry w.registration in
    let h = written_object object (whole_scalars token w.expiry w.registration texts (date_scalars w.expiry token.expires_at w.is_expiry) (scalars_if_there w.registration token.registration_expires_at w.is_registration)) (whole_nests token w.expiry w.registration) in
    let is : text ≡ braced (members_text object) = w.is ∙ ap braced (sym (whole_text token w.expiry w.registration)) in
    let bytes : List ℕ = encode_utf8_all (braced (members_text object)) in
    let back : sso_file bytes ≡ Ok token = file_of bytes h.0 h.1 token (only_object bytes h.0 h.1 h.2 (nothing_left bytes h.1 h.3))
    (is_token token w.expiry w.registration h.0 h.4 (date_back w.expiry token.expires_at w.is_expiry) (back_if_there field.RegistrationExpiresAt w.registration token.registration_expires_at w.is_registration)) in
    ap (λ (t : List ℕ). sso_file (encode_utf8_all t)) is ∙ back
