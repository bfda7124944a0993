-- What is written for a token is read back.
use Rattle.std.proofs.Common.{◌≡◌, inl, inr, ℕ, List, [], ◌∷◌, ◌++◌, map, Bool, true, false, cond, Option, Some, None, refl, sym, ap, subst, ◌∙◌, append_assoc, arith}
use Rattle.std.specs.Prelude.{Result, Ok, Err, option_map}
use Rattle.std.specs.List.{list_any}
use Rattle.std.specs.Option.{option_or}
use Rattle.std.specs.Str.{IsAscii, chars, encode_utf8_all, all_scalars}
use Rattle.std.proofs.lemmas.List.{append-nil}
use Rattle.std.proofs.lemmas.Str.{IsUtf8-from_ascii, chars-encodes, chars-IsAscii, encodes-append}
use Rattle.cfg_base.specs.Moment.{Moment}
use Rattle.cfg_base.specs.Text.{characters}
use Rattle.cfg_base.specs.Gives.{◌>>=◌}
use Rattle.cfg_types.specs.Field.{field_name}
use Rattle.cfg_types.specs.Keys.{Keys}
use Rattle.cfg_types.specs.declared.document.Field.{Field}
use Rattle.cfg_types.specs.declared.document.Field.TheVariants as field
use Rattle.cfg_types.specs.declared.document.JsonError.{JsonError}
use Rattle.cfg_types.specs.declared.errors.login.LoginJsonFault.TheVariants.{Nested}
use Rattle.cfg_types.specs.declared.errors.login.LoginTokenError.TheVariants.{JsonError as Json}
use Rattle.cfg_json.specs.Ascii.{quotation_mark, comma, colon, left_curly_bracket, right_curly_bracket}
use Rattle.cfg_json.specs.declared.credentials.JsonCredentials.{JsonCredentials}
use Rattle.cfg_json.specs.declared.credentials.JsonCredentials.TheVariants as document
use Rattle.cfg_json.specs.declared.member.Member.{Member}
use Rattle.cfg_json.specs.declared.member.MemberValue.{MemberValue}
use Rattle.cfg_json.specs.declared.member.MemberValue.TheVariants as value
use Rattle.cfg_json.specs.Places.{between}
use Rattle.cfg_json.specs.Objects.{HasObject}
use Rattle.cfg_json.specs.Writing.{quoted, braced, before_next, with_member}
use Rattle.cfg_json.specs.WrittenObjects.{WrittenObject, ToldMember, Tale, members_text, HasScalars, Nests, told_value, told_member, told}
use Rattle.cfg_json.specs.Lookups.{is_named}
use Rattle.cfg_json.specs.Dates.{IsWrittenDate}
use Rattle.cfg_json.specs.Documents.{field_text, required, dated, date_in, refreshable, by_code, document_of}
use Rattle.cfg_json.specs.Documents as documents
use Rattle.cfg_json.specs.Answers.{Answers, MemberList, list_answer}
use Rattle.cfg_json.proofs.AnswerLaws.{only_is}
use Rattle.cfg_json.proofs.WrittenObjectLaws.{written_object}
use Rattle.cfg_json.proofs.WrittenStrings.{ascii_first}
use Rattle.cfg_json.proofs.DatesWritten.{written_stands}
use Rattle.cfg_json.proofs.DatesTake.{time_ascii, reads_as}
use Rattle.cfg_token.proofs.Files.{itself, same_answer}
use Rattle.cfg_token.specs.SsoFile.{text_of}
use Rattle.cfg_token.specs.SsoFile as names
use Rattle.cfg_token.specs.SsoText.{with_text_if_there, IsWrittenIfThere}
use Rattle.cfg_login_token.specs.declared.access.AccessKeys.{AccessKeys}
use Rattle.cfg_login_token.specs.declared.login_token.LoginToken.{LoginToken}
use Rattle.cfg_login_token.specs.DpopKeys.{with_line_feeds}
use Rattle.cfg_login_token.specs.Access.{Read, Place, holds_object, keys_of, access_of, access_at, last_place, place_under, members_in, login_keys}
use Rattle.cfg_login_token.specs.LoginFile.{token_of, or_fault, members_of_file, login_file}
use Rattle.cfg_login_token.specs.LoginFile as file
use Rattle.cfg_login_token.specs.LoginText.{access_member, token_members, IsLoginText, IsOfFile}
use Rattle.cfg_login_token.proofs.Files.{front_has_memory}
use Rattle.cfg_login_token.proofs.TextFields.{Named, last_told, told_of, or_none, with_field, found_under, told_with, text_with, scalars_with, nests_with, AllTexts, texts_push, no_object, no_place}
use Rattle.cfg_login_token.proofs.FirstObject.{key_bytes, object_bytes, first_object}

-- ---- the dates

scalars_of_ascii : (bs : List ℕ) → IsAscii bs → all_scalars bs ≡ true
scalars_of_ascii bs h = let u = IsUtf8-from_ascii bs h in subst (λ (t : List ℕ). all_scalars t ≡ true) (sym (chars-encodes u.0 u.1.0) ∙ ap chars u.1.1 ∙ chars-IsAscii bs h) u.1.0

date_scalars : (text : List ℕ) (m : Moment) → IsWrittenDate text m → all_scalars text ≡ true
date_scalars text m h = scalars_of_ascii text (time_ascii false text m (written_stands text m h))

date_back : (text : List ℕ) (m : Moment) → IsWrittenDate text m → date_in text ≡ Some m
unfolding date_in
date_back text m h = (reads_as false text m (date_scalars text m h)).1 (written_stands text m h)

-- ---- the object `accessToken`

abbrev keys_table : Option (List ℕ) → Option (List ℕ) → Option (List ℕ) → Option (List ℕ) → Option (List ℕ) → documents.Read JsonCredentials
keys_table id secret session end account =
    required field.AccessKeyId id >>= λ id.
    required field.SecretAccessKey secret >>= λ secret.
    required field.Token session >>= λ session.
    required field.Expiration end >>= λ end.
    dated field.Expiration (date_in end) >>= λ moment.
    Ok (document.RefreshableCredentials id secret session account moment)

abbrev dated_table : List ℕ → List ℕ → List ℕ → List ℕ → Option Moment → documents.Read JsonCredentials
dated_table id secret session account end = dated field.Expiration end >>= λ moment. Ok (document.RefreshableCredentials id secret session (Some account) moment)

table_is : (id secret session expiry account : List ℕ) (end : Moment) (a b c d e : Option (List ℕ)) → a ≡ Some id → b ≡ Some secret → c ≡ Some session → d ≡ Some expiry → e ≡ Some account → date_in expiry ≡ Some end
    → keys_table a b c d e ≡ Ok (document.RefreshableCredentials id secret session (Some account) end)
table_is id secret session expiry account end a b c d e ha hb hc hd he date =
    ap (λ (x : Option (List ℕ)). keys_table x b c d e) ha
    ∙ ap (λ (x : Option (List ℕ)). keys_table (Some id) x c d e) hb
    ∙ ap (λ (x : Option (List ℕ)). keys_table (Some id) (Some secret) x d e) hc
    ∙ ap (λ (x : Option (List ℕ)). keys_table (Some id) (Some secret) (Some session) x e) hd
    ∙ ap (λ (x : Option (List ℕ)). keys_table (Some id) (Some secret) (Some session) (Some expiry) x) he
    ∙ ap (dated_table id secret session account) date

module _ (id secret session account expiry : List ℕ) where
  abbrev inner : WrittenObject
  inner =
      with_field field.LowerExpiresAt (Some expiry)
      (with_field field.LowerAccountId (Some account)
      (with_field field.LowerSessionToken (Some session)
      (with_field field.LowerSecretAccessKey (Some secret)
      (with_field field.LowerAccessKeyId (Some id) WrittenObject.bare))))

  abbrev inner_found : Named → Option (List ℕ)
  inner_found named =
      option_or (found_under named field.LowerExpiresAt (Some expiry))
      (option_or (found_under named field.LowerAccountId (Some account))
      (option_or (found_under named field.LowerSessionToken (Some session))
      (option_or (found_under named field.LowerSecretAccessKey (Some secret))
      (option_or (found_under named field.LowerAccessKeyId (Some id)) None))))

  inner_told : (named : Named) → last_told named (told inner) ≡ inner_found named
  inner_told named =
      told_with named field.LowerExpiresAt (Some expiry) (with_field field.LowerAccountId (Some account) (with_field field.LowerSessionToken (Some session) (with_field field.LowerSecretAccessKey (Some secret) (with_field field.LowerAccessKeyId (Some id) WrittenObject.bare))))
      ∙ ap (option_or (found_under named field.LowerExpiresAt (Some expiry))) (told_with named field.LowerAccountId (Some account) (with_field field.LowerSessionToken (Some session) (with_field field.LowerSecretAccessKey (Some secret) (with_field field.LowerAccessKeyId (Some id) WrittenObject.bare)))
      ∙ ap (option_or (found_under named field.LowerAccountId (Some account))) (told_with named field.LowerSessionToken (Some session) (with_field field.LowerSecretAccessKey (Some secret) (with_field field.LowerAccessKeyId (Some id) WrittenObject.bare))
      ∙ ap (option_or (found_under named field.LowerSessionToken (Some session))) (told_with named field.LowerSecretAccessKey (Some secret) (with_field field.LowerAccessKeyId (Some id) WrittenObject.bare)
      ∙ ap (option_or (found_under named field.LowerSecretAccessKey (Some secret))) (told_with named field.LowerAccessKeyId (Some id) WrittenObject.bare))))

  inner_texts : AllTexts (told inner)
  inner_texts = (tt, (tt, (tt, (tt, (tt, tt)))))

  module _ (ms : List Member) (tells : map told_member ms ≡ told inner) where
    inner_text : (f other : Field) → field_text ms f other ≡ inner_found (is_named (field_name f) (field_name other))
    inner_text f other = told_of (is_named (field_name f) (field_name other)) ms ∙ ap (last_told (is_named (field_name f) (field_name other))) tells ∙ inner_told (is_named (field_name f) (field_name other))

    document_is : (end : Moment) → date_in expiry ≡ Some end → document_of ms ≡ Ok (document.RefreshableCredentials id secret session (Some account) end)
    unfolding document_of refreshable lib.Utf8.encode
    document_is end date =
        let code : field_text ms field.Code field.Code ≡ None = inner_text field.Code field.Code in
        let a : field_text ms field.AccessKeyId field.AccessKeyId ≡ Some id = inner_text field.AccessKeyId field.AccessKeyId in
        let b : field_text ms field.SecretAccessKey field.SecretAccessKey ≡ Some secret = inner_text field.SecretAccessKey field.SecretAccessKey in
        let c : field_text ms field.Token field.SessionToken ≡ Some session = inner_text field.Token field.SessionToken in
        let d : field_text ms field.Expiration field.ExpiresAt ≡ Some expiry = inner_text field.Expiration field.ExpiresAt in
        let e : field_text ms field.AccountId field.AccountId ≡ Some account = inner_text field.AccountId field.AccountId in
        ap (by_code ms) code
        ∙ table_is id secret session expiry account end (field_text ms field.AccessKeyId field.AccessKeyId) (field_text ms field.SecretAccessKey field.SecretAccessKey) (field_text ms field.Token field.SessionToken) (field_text ms field.Expiration field.ExpiresAt) (field_text ms field.AccountId field.AccountId) a b c d e date

    access_is : (end : Moment) → date_in expiry ≡ Some end → access_of ms ≡ Ok (record { access_key_id = id; secret_access_key = secret; session_token = session; account_id = Some account; expiration = end })
    unfolding access_of
    access_is end date =
        let plain : list_any holds_object ms ≡ false = no_object ms (subst AllTexts (sym tells) inner_texts) in
        ap (λ (b : Bool). cond b (Err (Json Nested)) (keys_of (document_of ms))) plain ∙ ap keys_of (document_is end date)

-- ---- the file

-- the keys that are read, with their account
abbrev read_keys : AccessKeys → List ℕ → AccessKeys
read_keys keys account = record { access_key_id = keys.access_key_id; secret_access_key = keys.secret_access_key; session_token = keys.session_token; account_id = Some account; expiration = keys.expiration }

abbrev token_table : Read (Option AccessKeys) → Option (List ℕ) → Option (List ℕ) → Option (List ℕ) → Option (List ℕ) → Option (List ℕ) → Read LoginToken
token_table access client key refresh kind identity =
    access >>= λ access.
    file.required field.LowerAccessKeyId access >>= λ keys.
    file.required field.LowerAccountId keys.account_id >>= λ account.
    file.required field.ClientId client >>= λ client.
    file.required field.DpopKey (option_map with_line_feeds key) >>= λ key.
    file.required field.RefreshToken refresh >>= λ refresh.
    Ok (record { access_token = login_keys keys account; token_type = kind; identity_token = identity; refresh_token = refresh; client_id = client; dpop_key = key })

abbrev some_keys : AccessKeys → Read (Option AccessKeys)
some_keys keys = Ok (Some keys)

abbrev with_access : LoginToken → Keys → List ℕ → Read LoginToken
with_access token keys key = Ok (record { access_token = keys; token_type = token.token_type; identity_token = token.identity_token; refresh_token = token.refresh_token; client_id = token.client_id; dpop_key = key })

whole_token : (token : LoginToken) (h : IsOfFile token) → with_access token (login_keys (read_keys h.keys h.account) h.account) (with_line_feeds token.dpop_key) ≡ Ok token
whole_token token h = ap (λ (k : Keys). with_access token k (with_line_feeds token.dpop_key)) (sym h.access_token) ∙ ap (with_access token token.access_token) h.line_feeds

token_is : (token : LoginToken) (h : IsOfFile token) (access : Read (Option AccessKeys)) (client key refresh kind identity : Option (List ℕ)) →
    access ≡ some_keys (read_keys h.keys h.account) → client ≡ Some token.client_id → key ≡ Some token.dpop_key → refresh ≡ Some token.refresh_token → kind ≡ token.token_type → identity ≡ token.identity_token →
    token_table access client key refresh kind identity ≡ Ok token
token_is token h access client key refresh kind identity a b c d e f =
    ap (λ (x : Read (Option AccessKeys)). token_table x client key refresh kind identity) a
    ∙ ap (λ (x : Option (List ℕ)). token_table (some_keys (read_keys h.keys h.account)) x key refresh kind identity) b
    ∙ ap (λ (x : Option (List ℕ)). token_table (some_keys (read_keys h.keys h.account)) (Some token.client_id) x refresh kind identity) c
    ∙ ap (λ (x : Option (List ℕ)). token_table (some_keys (read_keys h.keys h.account)) (Some token.client_id) (Some token.dpop_key) x kind identity) d
    ∙ ap (λ (x : Option (List ℕ)). token_table (some_keys (read_keys h.keys h.account)) (Some token.client_id) (Some token.dpop_key) (Some token.refresh_token) x identity) e
    ∙ ap (λ (x : Option (List ℕ)). token_table (some_keys (read_keys h.keys h.account)) (Some token.client_id) (Some token.dpop_key) (Some token.refresh_token) token.token_type x) f
    ∙ whole_token token h

abbrev access_name : List ℕ
access_name = characters (field_name field.AccessToken)

-- the object's text stands first
abbrev Fronts : WrittenObject → WrittenObject → Type 0
Fronts held w = (more : List ℕ) × (members_text w ≡ (quoted access_name ++ colon ∷ braced (members_text held)) ++ more)

fronts_bare : (held : WrittenObject) → Fronts held (WrittenObject.with_object WrittenObject.bare access_name held)
unfolding with_member
fronts_bare held = ([], sym (append-nil (quoted access_name ++ colon ∷ braced (members_text held))))

quote_first : (key t : List ℕ) → (rest : List ℕ) × (quoted key ++ t ≡ quotation_mark ∷ rest)
unfolding quoted
quote_first key t = (_, refl)

next_of : (x : ℕ) (front more member : List ℕ) → before_next ((x ∷ front) ++ more) ++ member ≡ (x ∷ front) ++ (more ++ comma ∷ member)
next_of x front more member = ap (λ (t : List ℕ). x ∷ t) (append_assoc (front ++ more) (comma ∷ []) member ∙ append_assoc front more (comma ∷ member))

next : (front more member : List ℕ) → (rest : List ℕ) × (front ≡ quotation_mark ∷ rest) → before_next (front ++ more) ++ member ≡ front ++ (more ++ comma ∷ member)
next front more member o = subst (λ (f : List ℕ). before_next (f ++ more) ++ member ≡ f ++ (more ++ comma ∷ member)) (sym o.1) (next_of quotation_mark o.0 more member)

fronts_with : (held : WrittenObject) (g : Field) (o : Option (List ℕ)) (w : WrittenObject) → Fronts held w → Fronts held (with_field g o w)
unfolding with_member
fronts_with held g None w h = h
fronts_with held g (Some text) w h =
    let member : List ℕ = quoted (characters (field_name g)) ++ colon ∷ quoted text in
    (h.0 ++ comma ∷ member, ap (λ (t : List ℕ). before_next t ++ member) h.1 ∙ next (quoted access_name ++ colon ∷ braced (members_text held)) h.0 member (quote_first access_name (colon ∷ braced (members_text held))))

front_bytes : (held w : WrittenObject) → Fronts held w → (more : List ℕ) × (object_bytes w ≡ left_curly_bracket ∷ (key_bytes access_name ++ (object_bytes held ++ more)))
unfolding braced
front_bytes held w h =
    let value : List ℕ = braced (members_text held) in
    let key : List ℕ = quoted access_name in
    let back : List ℕ = h.0 ++ right_curly_bracket ∷ [] in (
      encode_utf8_all back,
      ap (λ (t : List ℕ). encode_utf8_all (braced t)) h.1
          ∙ ascii_first left_curly_bracket (((key ++ colon ∷ value) ++ h.0) ++ right_curly_bracket ∷ []) (omega arith)
          ∙ ap (λ (t : List ℕ). left_curly_bracket ∷ encode_utf8_all t) (append_assoc (key ++ colon ∷ value) h.0 (right_curly_bracket ∷ []) ∙ append_assoc key (colon ∷ value) back)
          ∙ ap (λ (t : List ℕ). left_curly_bracket ∷ t) (encodes-append key (colon ∷ (value ++ back)) ∙ ap (λ (t : List ℕ). encode_utf8_all key ++ t) (ascii_first colon (value ++ back) (omega arith) ∙ ap (λ (t : List ℕ). colon ∷ t) (encodes-append value back)) ∙ sym (append_assoc (encode_utf8_all key) (colon ∷ []) (encode_utf8_all value ++ encode_utf8_all back))),
    )

-- and what is told of the others is texts
abbrev Others : WrittenObject → Type 0
Others w = (tales : List Tale) × (told w ≡ (access_name, ToldMember.an_object) ∷ tales) × AllTexts tales

others_with : (g : Field) (o : Option (List ℕ)) (w : WrittenObject) → Others w → Others (with_field g o w)
others_with g None w h = h
others_with g (Some text) w h = (h.0 ++ (characters (field_name g), ToldMember.a_text text) ∷ [], ap (λ (t : List Tale). t ++ (characters (field_name g), ToldMember.a_text text) ∷ []) h.1, texts_push h.0 (characters (field_name g), ToldMember.a_text text) h.2 tt)

others_bare : (held : WrittenObject) → Others (WrittenObject.with_object WrittenObject.bare access_name held)
others_bare held = ([], refl, tt)

module _ (token : LoginToken) (object : WrittenObject) where
  abbrev opened : WrittenObject
  opened = WrittenObject.with_object WrittenObject.bare access_name object

  abbrev typed : WrittenObject
  typed = with_field field.TokenType token.token_type opened

  abbrev refreshed : WrittenObject
  refreshed = with_field field.RefreshToken (Some token.refresh_token) typed

  abbrev identified : WrittenObject
  identified = with_field field.IdToken token.identity_token refreshed

  abbrev of_client : WrittenObject
  of_client = with_field field.ClientId (Some token.client_id) identified

  abbrev whole : WrittenObject
  whole = with_field field.DpopKey (Some token.dpop_key) of_client

  abbrev found : Named → Option (List ℕ)
  found named =
      option_or (found_under named field.DpopKey (Some token.dpop_key))
      (option_or (found_under named field.ClientId (Some token.client_id))
      (option_or (found_under named field.IdToken token.identity_token)
      (option_or (found_under named field.RefreshToken (Some token.refresh_token))
      (option_or (found_under named field.TokenType token.token_type) (last_told named (told opened))))))

  found_told : (named : Named) → last_told named (told whole) ≡ found named
  found_told named =
      told_with named field.DpopKey (Some token.dpop_key) of_client
      ∙ ap (option_or (found_under named field.DpopKey (Some token.dpop_key))) (told_with named field.ClientId (Some token.client_id) identified
      ∙ ap (option_or (found_under named field.ClientId (Some token.client_id))) (told_with named field.IdToken token.identity_token refreshed
      ∙ ap (option_or (found_under named field.IdToken token.identity_token)) (told_with named field.RefreshToken (Some token.refresh_token) typed
      ∙ ap (option_or (found_under named field.RefreshToken (Some token.refresh_token))) (told_with named field.TokenType token.token_type opened))))

  whole_fronts : Fronts object whole
  whole_fronts =
      fronts_with object field.DpopKey (Some token.dpop_key) of_client
      (fronts_with object field.ClientId (Some token.client_id) identified
      (fronts_with object field.IdToken token.identity_token refreshed
      (fronts_with object field.RefreshToken (Some token.refresh_token) typed
      (fronts_with object field.TokenType token.token_type opened (fronts_bare object)))))

  whole_others : Others whole
  whole_others =
      others_with field.DpopKey (Some token.dpop_key) of_client
      (others_with field.ClientId (Some token.client_id) identified
      (others_with field.IdToken token.identity_token refreshed
      (others_with field.RefreshToken (Some token.refresh_token) typed
      (others_with field.TokenType token.token_type opened (others_bare object)))))

  whole_scalars : IsOfFile token → HasScalars object → HasScalars whole
  whole_scalars h s =
      scalars_with field.DpopKey (Some token.dpop_key) of_client refl h.dpop_key
      (scalars_with field.ClientId (Some token.client_id) identified refl h.client_id
      (scalars_with field.IdToken token.identity_token refreshed refl h.identity_token
      (scalars_with field.RefreshToken (Some token.refresh_token) typed refl h.refresh_token
      (scalars_with field.TokenType token.token_type opened refl h.token_type (tt, refl, s)))))

  whole_nests : Nests object 126 → Nests whole 127
  whole_nests n = nests_with field.IdToken token.identity_token refreshed (nests_with field.TokenType token.token_type opened (tt, n))

  text_found : (ms : List Member) → map told_member ms ≡ told whole → (f : Field) → text_of ms f ≡ found (names.is_named (field_name f))
  text_found ms tells f = told_of (names.is_named (field_name f)) ms ∙ ap (last_told (names.is_named (field_name f))) tells ∙ found_told (names.is_named (field_name f))

-- the place of the first member, where an object stands in no other
record Opened (list : List Member) : Type 0 where
  m : Member
  rest : List Member
  from : ℕ
  to : ℕ
  is : list ≡ m ∷ rest
  is_object : m.value ≡ value.Object from to
  place : last_place (field_name field.AccessToken) list ≡ Some (from, to)

own_name : names.is_named (field_name field.AccessToken) access_name ≡ true
unfolding lib.Utf8.encode
own_name = refl

opened_list : (list : List Member) (tales : List Tale) → map told_member list ≡ (access_name, ToldMember.an_object) ∷ tales → AllTexts tales → Opened list
opened_list [] tales is h = absurd (none tales is)
  where
    none : (tales : List Tale) → (let l : List Tale = [] in l) ≡ (access_name, ToldMember.an_object) ∷ tales → ⊥
    none tales is = absurd cc
opened_list (m ∷ rest) tales is h = by_value m.value refl
  where
    same_tale : (a b : Tale) (s t : List Tale) → a ∷ s ≡ b ∷ t → a ≡ b
    same_tale a b s t e = cc

    same_tales : (a b : Tale) (s t : List Tale) → a ∷ s ≡ b ∷ t → s ≡ t
    same_tales a b s t e = cc

    first : told_member m ≡ (access_name, ToldMember.an_object)
    first = same_tale (told_member m) (access_name, ToldMember.an_object) (map told_member rest) tales is

    others : last_place (field_name field.AccessToken) rest ≡ None
    others = no_place (field_name field.AccessToken) rest (subst AllTexts (sym (same_tales (told_member m) (access_name, ToldMember.an_object) (map told_member rest) tales is)) h)

    named : names.is_named (field_name field.AccessToken) m.key ≡ true
    named = ap (λ (t : Tale). names.is_named (field_name field.AccessToken) t.0) first ∙ own_name

    no_other : ToldMember.another ≡ ToldMember.an_object → ⊥
    no_other e = absurd cc

    no_text : (t : List ℕ) → ToldMember.a_text t ≡ ToldMember.an_object → ⊥
    no_text t e = absurd cc

    by_value : (v : MemberValue) → m.value ≡ v → Opened (m ∷ rest)
    by_value (value.Text t) e = absurd (no_text t (sym (ap told_value e) ∙ ap (λ (t : Tale). t.1) first))
    by_value (value.Number t) e = absurd (no_other (sym (ap told_value e) ∙ ap (λ (t : Tale). t.1) first))
    by_value (value.Object from to) e = record {
      m = m;
      rest = rest;
      from = from;
      to = to;
      is = refl;
      is_object = e;
      place = ap (λ (o : Option Place). option_or o (place_under (field_name field.AccessToken) m)) others ∙ rw (named, e) refl;
    }
    by_value (value.Array has) e = absurd (no_other (sym (ap told_value e) ∙ ap (λ (t : Tale). t.1) first))
    by_value value.Other e = absurd (no_other (sym (ap told_value e) ∙ ap (λ (t : Tale). t.1) first))

-- ---- the law

some_date : (text : Option (List ℕ)) (m : Moment) → IsWrittenIfThere text (Some m) → (date : List ℕ) × (text ≡ Some date) × IsWrittenDate date m
some_date None m h = absurd h
some_date (Some date) m h = (date, refl, h)

list_is : (bytes : List ℕ) (list : List Member) (end : ℕ) → HasObject bytes list end → list_answer bytes ≡ Ok (list, end)
list_is bytes list end h = by_answer (list_answer bytes) refl (only_is itself bytes (list_answer bytes) (same_answer bytes (list_answer bytes)) list end h)
  where
    by_answer : (a : Result MemberList JsonError) → list_answer bytes ≡ a → Answers itself a (Ok (list, end)) → a ≡ Ok (list, end)
    by_answer (Ok p) is k = sym k
    by_answer (Err e) is k = elim k [
      | inl m ↦ absurd (front_has_memory bytes (is ∙ ap (λ (x : JsonError). let r : Result MemberList JsonError = Err x in r) m))
      | inr s ↦ sym s
    ]

file_is : (bytes : List ℕ) (list : List Member) (end : ℕ) (token : LoginToken) → HasObject bytes list end → token_of bytes list ≡ Ok token → login_file bytes ≡ Ok token
unfolding login_file members_of_file
file_is bytes list end token h t = ap (λ (a : Result MemberList JsonError). or_fault a >>= token_of bytes) (list_is bytes list end h) ∙ t

module _ (token : LoginToken) (h : IsOfFile token) (date : List ℕ) (w : IsWrittenDate date h.keys.expiration) where
  abbrev object : WrittenObject
  object = inner h.keys.access_key_id h.keys.secret_access_key h.keys.session_token h.account date

  object_scalars : HasScalars object
  object_scalars = (((((tt, refl, h.access_key_id), refl, h.secret_access_key), refl, h.session_token), refl, h.account_id), refl, date_scalars date h.keys.expiration w)

  object_member : with_member [] access_name (braced (members_text object)) ≡ access_member token.access_token (Some date)
  object_member = ap (λ k. access_member k (Some date)) (sym h.access_token)

  file_text : members_text (whole token object) ≡ token_members token (Some date)
  file_text =
      ap (λ (t : List ℕ). with_text_if_there field.DpopKey (Some token.dpop_key) (with_text_if_there field.ClientId (Some token.client_id) t))
      (text_with field.IdToken token.identity_token (refreshed token object)
      ∙ ap (λ (t : List ℕ). with_text_if_there field.IdToken token.identity_token (with_text_if_there field.RefreshToken (Some token.refresh_token) t))
      (text_with field.TokenType token.token_type (opened token object) ∙ ap (with_text_if_there field.TokenType token.token_type) object_member))

  module _ (list : List Member) (end : ℕ) (has : HasObject (object_bytes (whole token object)) list end) (tells : map told_member list ≡ told (whole token object)) where
    access_read : access_at (object_bytes (whole token object)) (last_place (field_name field.AccessToken) list) ≡ some_keys (read_keys h.keys h.account)
    access_read =
        let o = whole_others token object in
        let p = opened_list list o.0 (tells ∙ o.1) o.2 in
        let f = front_bytes object (whole token object) (whole_fronts token object) in
        let told_inside = first_object (object_bytes (whole token object)) list p.rest p.m end p.from p.to access_name f.0 object refl object_scalars tt f.1 has p.is p.is_object in
        ap (access_at (object_bytes (whole token object))) p.place
        ∙ ap (λ (a : Read AccessKeys). a >>= λ keys. some_keys keys) (access_is h.keys.access_key_id h.keys.secret_access_key h.keys.session_token h.account date (members_in (between (object_bytes (whole token object)) p.from p.to)) told_inside h.keys.expiration (date_back date h.keys.expiration w))

    token_read : token_of (object_bytes (whole token object)) list ≡ Ok token
    unfolding token_of lib.Utf8.encode
    token_read =
        let client : text_of list field.ClientId ≡ Some token.client_id = text_found token object list tells field.ClientId in
        let key : text_of list field.DpopKey ≡ Some token.dpop_key = text_found token object list tells field.DpopKey in
        let refresh : text_of list field.RefreshToken ≡ Some token.refresh_token = text_found token object list tells field.RefreshToken in
        let kind : text_of list field.TokenType ≡ token.token_type = text_found token object list tells field.TokenType ∙ or_none token.token_type in
        let identity : text_of list field.IdToken ≡ token.identity_token = text_found token object list tells field.IdToken ∙ or_none token.identity_token in
        token_is token h (access_at (object_bytes (whole token object)) (last_place (field_name field.AccessToken) list)) (text_of list field.ClientId) (text_of list field.DpopKey) (text_of list field.RefreshToken) (text_of list field.TokenType) (text_of list field.IdToken) access_read client key refresh kind identity

  file_back : login_file (object_bytes (whole token object)) ≡ Ok token
  file_back =
      let r = written_object (whole token object) (whole_scalars token object h object_scalars) (whole_nests token object tt) in
      file_is (object_bytes (whole token object)) r.0 r.1 token r.2 (token_read r.0 r.1 r.2 r.4)

pub written_token : (token : LoginToken) (text : List ℕ) → IsOfFile token → IsLoginText token text → login_file (encode_utf8_all text) ≡ Ok token
written_token token text h w =
    let d = some_date w.expiry h.keys.expiration (subst (λ k. IsWrittenIfThere w.expiry k.expiry) h.access_token w.is_expiry) in
    let is : text ≡ braced (members_text (whole token (object token h d.0 d.2))) = w.is ∙ ap (λ (e : Option (List ℕ)). braced (token_members token e)) d.1 ∙ ap braced (sym (file_text token h d.0 d.2)) in
    ap (λ (t : List ℕ). login_file (encode_utf8_all t)) is ∙ file_back token h d.0 d.2
