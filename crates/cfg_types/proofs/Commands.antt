-- What a search for white space tells of a text's characters.
use Rattle.std.proofs.Common.{◌≡◌, ℕ, List, [], ◌∷◌, ◌++◌, Bool, true, false, refl, sym, ap, ◌∙◌, append-nil, append_assoc, if◌then◌else◌, codes}
use Rattle.std.specs.Char.{is_whitespace, encode_utf8}
use Rattle.std.specs.Str.{IsUtf8, encode_utf8_all, NonePass, NoCharPasses}
use Rattle.std.proofs.lemmas.Str.{chars_from_encodes, cons_from_encodes, encodes-append}
use Rattle.cfg_base.specs.Text.{characters}
use Rattle.cfg_base.proofs.TextLemmas.{characters-chars}
use Rattle.cfg_types.specs.Commands.{program, has_white_space, shown_command}

none-there : (cs : List ℕ) → NonePass is_whitespace cs → has_white_space cs ≡ false
none-there [] h = refl
none-there (c ∷ cs) h = rw h.0 (none-there cs h.1)

there : (cs : List ℕ) (c : ℕ) (rest : List ℕ) → NonePass is_whitespace cs → is_whitespace c ≡ true
    → (has_white_space (cs ++ (c ∷ rest)) ≡ true) × (program (cs ++ (c ∷ rest)) ≡ cs)
there [] c rest h e = rw e (refl, refl)
there (d ∷ cs) c rest h e =
    let k = there cs c rest h.1 e in
    rw h.0 (k.0, ap (λ text. d ∷ text) k.1)

pub no_white_space : (bs : List ℕ) → IsUtf8 bs → NoCharPasses is_whitespace bs → has_white_space (characters bs) ≡ false
no_white_space bs u h = ap has_white_space (characters-chars bs ∙ sym (chars_from_encodes h.0 bs u h.1)) ∙ none-there h.0 h.2

parts : (ds cs : List ℕ) (c : ℕ) (rest : List ℕ) → encode_utf8_all ds ≡ encode_utf8_all cs ++ (encode_utf8 c ++ rest) → (es : List ℕ) × (ds ≡ cs ++ (c ∷ es))
parts ds [] c rest e = let k = cons_from_encodes ds rest c e in (k.0, k.1)
parts ds (d ∷ cs) c rest e =
    let k = cons_from_encodes ds (encode_utf8_all cs ++ (encode_utf8 c ++ rest)) d (e ∙ append_assoc (encode_utf8 d) (encode_utf8_all cs) _) in
    let more = parts k.0 cs c rest k.2 in
    (more.0, k.1 ∙ ap (λ l. d ∷ l) more.1)

pub split : (bs before rest : List ℕ) (c : ℕ) → IsUtf8 bs → bs ≡ before ++ (encode_utf8 c ++ rest) → NoCharPasses is_whitespace before → is_whitespace c ≡ true
    → (has_white_space (characters bs) ≡ true) × (before ≡ encode_utf8_all (program (characters bs)))
split bs before rest c u e h w =
    let cut = parts u.0 h.0 c rest (u.1.1 ∙ e ∙ ap (λ b. b ++ (encode_utf8 c ++ rest)) (sym h.1)) in
    let whole : characters bs ≡ h.0 ++ (c ∷ cut.0) = characters-chars bs ∙ sym (chars_from_encodes u.0 bs u u.1.1) ∙ cut.1 in
    let told = there h.0 c cut.0 h.2 w in
    (ap has_white_space whole ∙ told.0, sym (ap (λ text. encode_utf8_all (program text)) whole ∙ ap encode_utf8_all told.1 ∙ h.1))

program-whole : (text : List ℕ) → has_white_space text ≡ false → program text ≡ text
program-whole [] h = refl
program-whole (c ∷ text) h = by (is_whitespace c) (program-whole text) h
  where
    by : (t : Bool) → (has_white_space text ≡ false → program text ≡ text) → (if t then true else has_white_space text) ≡ false → (if t then [] else c ∷ program text) ≡ c ∷ text
    by true rest k = cc
    by false rest k = ap (λ cs. c ∷ cs) (rest k)

-- with no white space the whole text is shown
pub shown_whole : (text : List ℕ) → has_white_space text ≡ false → shown_command text ≡ text
shown_whole text h = ap (λ cs. cs ++ (if has_white_space text then codes " ** arguments redacted **" else [])) (program-whole text h) ∙ ap (λ b. text ++ (if b then codes " ** arguments redacted **" else [])) h ∙ append-nil text

-- with white space, the bytes of what stands before it, and those of the note
pub shown_before : (text : List ℕ) → has_white_space text ≡ true → encode_utf8_all (shown_command text) ≡ encode_utf8_all (program text) ++ codes " ** arguments redacted **"
unfolding encode_utf8
shown_before text h = ap (λ b. encode_utf8_all (program text ++ (if b then codes " ** arguments redacted **" else []))) h ∙ encodes-append (program text) _

-- the text alone is the whole of what is shown
pub whole_written : (text command : List ℕ) → characters text ≡ command → text ≡ encode_utf8_all command → has_white_space (characters text) ≡ false
    → text ≡ encode_utf8_all (shown_command command)
whole_written text command chars bytes none = bytes ∙ ap encode_utf8_all (sym (shown_whole command (ap has_white_space (sym chars) ∙ none)))

-- the program and the note are the whole of what is shown
pub part_written : (text command before : List ℕ) → characters text ≡ command → has_white_space (characters text) ≡ true → before ≡ encode_utf8_all (program (characters text))
    → before ++ codes " ** arguments redacted **" ≡ encode_utf8_all (shown_command command)
part_written text command before chars some e =
    ap (λ b. b ++ codes " ** arguments redacted **") (e ∙ ap (λ t. encode_utf8_all (program t)) chars) ∙ sym (shown_before command (ap has_white_space (sym chars) ∙ some))
