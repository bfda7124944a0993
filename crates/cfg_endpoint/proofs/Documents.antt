-- The document of what is served, and what it is read as.
use Rattle.std.proofs.Common.{◌≡◌, ◌≢◌, ℕ, List, [], ◌∷◌, length, map, drop, true, false, Option, Some, None, refl, sym, ap, ◌∙◌, subst}
use Rattle.std.specs.Prelude.{unwrap_or, Ok, Err, if◌then◌else◌}
use Rattle.std.specs.Option.{option_or}
use Rattle.std.specs.Str.{IsAscii, chars, encode_utf8_all, all_scalars}
use Rattle.std.proofs.lemmas.Str.{IsUtf8-from_ascii, chars-encodes, chars-IsAscii}
use Rattle.cfg_base.specs.Gives.{◌>>=◌}
use Rattle.cfg_base.specs.Moment.{Moment}
use Rattle.cfg_base.specs.Text.{characters}
use Rattle.cfg_types.specs.Field.{field_name}
use Rattle.cfg_types.specs.declared.document.Field.{Field}
use Rattle.cfg_types.specs.declared.document.Field.TheVariants as field
use Rattle.cfg_types.specs.declared.document.InvalidJsonCredentials.TheVariants as invalid
use Rattle.cfg_types.specs.declared.errors.UnhandledCause.TheVariants.{NotUtf8}
use Rattle.cfg_json.specs.declared.credentials.JsonCredentials.{JsonCredentials}
use Rattle.cfg_json.specs.declared.credentials.JsonCredentials.TheVariants as says
use Rattle.cfg_json.specs.declared.member.Member.{Member}
use Rattle.cfg_json.specs.declared.member.MemberValue.{MemberValue}
use Rattle.cfg_json.specs.declared.member.MemberValue.TheVariants as value
use Rattle.cfg_json.specs.Answers.{OnlyWhiteSpaceFrom}
use Rattle.cfg_json.specs.Dates.{IsWrittenDate}
use Rattle.cfg_json.specs.Documents.{Read, field_text, account_text, required, dated, date_in, refreshable, by_code, document_of as document_of_members}
use Rattle.cfg_json.specs.Lookups.{is_named, text_in, text_under}
use Rattle.cfg_json.specs.WhiteSpace.{IsWhiteSpace}
use Rattle.cfg_json.specs.Writing.{braced}
use Rattle.cfg_json.specs.WrittenObjects.{WrittenObject, ToldMember, Tale, members_text, told_value, told_member, told}
use Rattle.cfg_json.proofs.DatesTake.{time_ascii, reads_as}
use Rattle.cfg_json.proofs.DatesWritten.{written_stands}
use Rattle.cfg_json.proofs.WrittenObjectLaws.{written_object}
use Rattle.cfg_exchange.specs.Documents.{document, or_no_document, body_document}
use Rattle.cfg_exchange.proofs.Said.{says_one_thing}
use Rattle.cfg_exchange.proofs.Utf8.{passes_utf8}
use Rattle.cfg_token.proofs.DateTexts.{date_is}
use Rattle.cfg_endpoint.specs.declared.served.Served.{Served}
use Rattle.cfg_endpoint.specs.Endpoints.{date_text, dated_members, document_of}
use Rattle.cfg_endpoint.specs.Made.{IsWritable}

pub date_text_is : (s : Served) (date : List ℕ) → IsWrittenDate date s.expires → date_text s.expires ≡ date
date_text_is s date h = ap (λ o. unwrap_or o []) (date_is date s.expires h)

pub written_bytes : (s : Served) (date text : List ℕ) → IsWrittenDate date s.expires → text ≡ braced (dated_members s date) → encode_utf8_all text ≡ document_of s
unfolding document_of
written_bytes s date text h is = ap encode_utf8_all (is ∙ ap (λ d. braced (dated_members s d)) (sym (date_text_is s date h)))

-- ---- what is told of members, under one of two names

abbrev told_in : ToldMember → Option (List ℕ)
told_in (ToldMember.a_text text) = Some text
told_in ToldMember.an_object = None
told_in ToldMember.another = None

abbrev told_text : Field → Field → Tale → Option (List ℕ)
told_text f g tale = if is_named (field_name f) (field_name g) tale.0 then told_in tale.1 else None

abbrev last_told : Field → Field → List Tale → Option (List ℕ)
last_told f g [] = None
last_told f g (tale ∷ tales) = option_or (last_told f g tales) (told_text f g tale)

told_as_it_is : (v : MemberValue) → text_in v ≡ told_in (told_value v)
told_as_it_is (value.Text text) = refl
told_as_it_is (value.Number text) = refl
told_as_it_is (value.Object from to) = refl
told_as_it_is (value.Array has) = refl
told_as_it_is value.Other = refl

told_of : (f g : Field) (ms : List Member) → field_text ms f g ≡ last_told f g (map told_member ms)
told_of f g [] = refl
told_of f g (m ∷ ms) =
    ap (λ (o : Option (List ℕ)). option_or o (text_under (field_name f) (field_name g) m)) (told_of f g ms)
    ∙ ap (λ (o : Option (List ℕ)). option_or (last_told f g (map told_member ms)) (if is_named (field_name f) (field_name g) m.key then o else None)) (told_as_it_is m.value)

-- ---- the document

abbrev key_of : Field → List ℕ
key_of f = characters (field_name f)

abbrev written : Served → List ℕ → WrittenObject
written s date = WrittenObject.with_text (WrittenObject.with_text (WrittenObject.with_text (WrittenObject.with_text WrittenObject.bare (key_of field.AccessKeyId) s.id) (key_of field.SecretAccessKey) s.secret) (key_of field.Token) s.token) (key_of field.Expiration) date

abbrev table : Option (List ℕ) → Option (List ℕ) → Option (List ℕ) → Option (List ℕ) → Option (List ℕ) → Read JsonCredentials
table id secret token end account =
    required field.AccessKeyId id >>= λ id.
    required field.SecretAccessKey secret >>= λ secret.
    required field.Token token >>= λ token.
    required field.Expiration end >>= λ end.
    dated field.Expiration (date_in end) >>= λ moment.
    Ok (says.RefreshableCredentials id secret token account moment)

abbrev served_said : Served → Read JsonCredentials
served_said s = Ok (says.RefreshableCredentials s.id s.secret s.token None s.expires)

table_is : (s : Served) (date : List ℕ) (id secret token end account : Option (List ℕ)) → id ≡ Some s.id → secret ≡ Some s.secret → token ≡ Some s.token → end ≡ Some date → account ≡ None → date_in date ≡ Some s.expires →
    table id secret token end account ≡ served_said s
table_is s date id secret token end account a b c d e m =
    ap (λ x. table x secret token end account) a
    ∙ ap (λ x. table (Some s.id) x token end account) b
    ∙ ap (λ x. table (Some s.id) (Some s.secret) x end account) c
    ∙ ap (λ x. table (Some s.id) (Some s.secret) (Some s.token) x account) d
    ∙ ap (λ x. table (Some s.id) (Some s.secret) (Some s.token) (Some date) x) e
    ∙ ap (λ (x : Option Moment). dated field.Expiration x >>= λ moment. Ok (says.RefreshableCredentials s.id s.secret s.token None moment)) m

module _ (s : Served) (date : List ℕ) (ms : List Member) (tells : map told_member ms ≡ told (written s date)) where
  found : (f g : Field) → field_text ms f g ≡ last_told f g (told (written s date))
  found f g = told_of f g ms ∙ ap (last_told f g) tells

  members_say : date_in date ≡ Some s.expires → document_of_members ms ≡ served_said s
  unfolding document_of_members refreshable lib.Utf8.encode
  members_say m =
      let code : field_text ms field.Code field.Code ≡ None = found field.Code field.Code in
      let id : field_text ms field.AccessKeyId field.AccessKeyId ≡ Some s.id = found field.AccessKeyId field.AccessKeyId in
      let secret : field_text ms field.SecretAccessKey field.SecretAccessKey ≡ Some s.secret = found field.SecretAccessKey field.SecretAccessKey in
      let token : field_text ms field.Token field.SessionToken ≡ Some s.token = found field.Token field.SessionToken in
      let end : field_text ms field.Expiration field.ExpiresAt ≡ Some date = found field.Expiration field.ExpiresAt in
      let account : field_text ms field.AccountId field.AccountId ≡ None = found field.AccountId field.AccountId in
      ap (by_code ms) code
      ∙ table_is s date (field_text ms field.AccessKeyId field.AccessKeyId) (field_text ms field.SecretAccessKey field.SecretAccessKey) (field_text ms field.Token field.SessionToken) (field_text ms field.Expiration field.ExpiresAt) (account_text ms) id secret token end account m

scalars_of_ascii : (bs : List ℕ) → IsAscii bs → all_scalars bs ≡ true
scalars_of_ascii bs h = let u = IsUtf8-from_ascii bs h in subst (λ (t : List ℕ). all_scalars t ≡ true) (sym (chars-encodes u.0 u.1.0) ∙ ap chars u.1.1 ∙ chars-IsAscii bs h) u.1.0

date_scalars : (text : List ℕ) (m : Moment) → IsWrittenDate text m → all_scalars text ≡ true
date_scalars text m h = scalars_of_ascii text (time_ascii false text m (written_stands text m h))

date_back : (text : List ℕ) (m : Moment) → IsWrittenDate text m → date_in text ≡ Some m
unfolding date_in
date_back text m h = (reads_as false text m (date_scalars text m h)).1 (written_stands text m h)

nothing_left : (bytes : List ℕ) (end : ℕ) → end ≡ length bytes → OnlyWhiteSpaceFrom bytes end
nothing_left bytes end is = subst IsWhiteSpace (sym (ap (λ (n : ℕ). drop n bytes) is ∙ drop_all bytes)) tt
  where
    drop_all : (bytes : List ℕ) → drop (length bytes) bytes ≡ []
    drop_all [] = refl
    drop_all (b ∷ bytes) = drop_all bytes

not_memory : (s : Served) → served_said s ≢ Err invalid.OutOfMemory
not_memory s = λ e. absurd cc

-- the document of what is served says what is served
pub says_served : (s : Served) → IsWritable s → document (document_of s) ≡ served_said s
unfolding document_of
says_served s w =
    let date = w.dated.0 in
    let object : WrittenObject = written s date in
    let h = written_object object ((((((tt, refl, w.texts.id), refl, w.texts.secret), refl, w.texts.token), refl, date_scalars date s.expires w.dated.1))) tt in
    let bytes : List ℕ = encode_utf8_all (braced (members_text object)) in
    let same : document_of s ≡ bytes = ap (λ d. encode_utf8_all (braced (dated_members s d))) (date_text_is s date w.dated.1) in
    let says : served_said s ≡ document_of_members h.0 = sym (members_say s date h.0 h.4 (date_back date s.expires w.dated.1)) in
    ap document same ∙ sym (says_one_thing bytes (served_said s) (h.0, (h.1, h.2, nothing_left bytes h.1 h.3), says) (not_memory s))

-- and so does a body that is it
pub body_says_served : (s : Served) → IsWritable s → body_document (document_of s) ≡ Ok (says.RefreshableCredentials s.id s.secret s.token None s.expires)
unfolding body_document
body_says_served s w =
    subst (λ b. (if b then or_no_document (document (document_of s)) else Err NotUtf8) ≡ Ok (says.RefreshableCredentials s.id s.secret s.token None s.expires)) (passes_utf8 (document_of s) w.utf8) (ap or_no_document (says_served s w))
