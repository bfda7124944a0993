-- What stands for ASCII characters between the quotation marks of a Debug text.
use Rattle.std.proofs.Common.{◌≡◌, ◌≢◌, ℕ, ◌<◌, List, [], ◌∷◌, ◌++◌, codes, Bool, true, false, ◌&&◌, refl, sym, ap, ◌∙◌, append_assoc, arith, if◌then◌else◌}
use Rattle.std.specs.Prelude.{Some, None, Result}
use Rattle.std.specs.declared.fmt.Formatter.{Formatter}
use Rattle.std.specs.declared.fmt.Error.{Error}
use Rattle.std.specs.Char.{is_ascii}
use Rattle.std.specs.Fmt.{digits, debug_escape, WritesOnOk, DisplaysOnOk}
use Rattle.std.specs.List.{list_all, flat_map}
use Rattle.std.specs.Str.{chars}
use Rattle.std.proofs.lemmas.Bool.Decides.{nat_tests}
use Rattle.std.proofs.lemmas.List.Concat.{flat_map-append}
use Rattle.std.proofs.lemmas.List.Folds.{list_all-append}
use Rattle.std.proofs.lemmas.List.Sums.{AllPass-from_list_all}
use Rattle.std.proofs.lemmas.Str.Ascii.{IsAscii-from_all}
use Rattle.std.proofs.lemmas.Str.{chars-IsAscii}
use Rattle.cfg_types.specs.Commands.{note, code_text}

pub nul : debug_escape 34 0 ≡ 92 ∷ 48 ∷ []
unfolding debug_escape
nul = refl

pub tab : debug_escape 34 9 ≡ 92 ∷ 116 ∷ []
unfolding debug_escape
tab = refl

pub new_line : debug_escape 34 10 ≡ 92 ∷ 110 ∷ []
unfolding debug_escape
new_line = refl

pub carriage_return : debug_escape 34 13 ≡ 92 ∷ 114 ∷ []
unfolding debug_escape
carriage_return = refl

pub quotation_mark : debug_escape 34 34 ≡ 92 ∷ 34 ∷ []
unfolding debug_escape
quotation_mark = refl

pub backslash : debug_escape 34 92 ≡ 92 ∷ 92 ∷ []
unfolding debug_escape
backslash = refl

pub stands_itself : (c : ℕ) → c ≢ 34 → c ≢ 92 → 31 < c → c < 127 → debug_escape 34 c ≡ c ∷ []
unfolding debug_escape
stands_itself c q b low high = grind (arith, nat_tests)

pub below_space : (c : ℕ) → 0 < c → c ≢ 9 → c ≢ 10 → c ≢ 13 → c < 32 → debug_escape 34 c ≡ code_text c
unfolding debug_escape
below_space c some tabs lines returns low = grind (arith, nat_tests)

pub delete : debug_escape 34 127 ≡ codes "\\u{7f}"
unfolding debug_escape digits
delete = refl

note_itself : flat_map (debug_escape 34) note ≡ note
unfolding debug_escape
note_itself = refl

both : (a b : Bool) → (a && b) ≡ true → (a ≡ true) × (b ≡ true)
both true b e = (refl, e)
both false b e = cc

pub one_more : (xs ys : List ℕ) → list_all is_ascii (xs ++ ys) ≡ true → (list_all is_ascii xs ≡ true) × (list_all is_ascii ys ≡ true)
one_more xs ys e = both _ _ (sym (list_all-append is_ascii xs ys) ∙ e)

pub last_one : (c : ℕ) → list_all is_ascii (c ∷ []) ≡ true → is_ascii c ≡ true
last_one c e = (both _ _ e).0

-- the characters of an ASCII text are its bytes
pub chars_ascii : (bs : List ℕ) → list_all is_ascii bs ≡ true → chars bs ≡ bs
chars_ascii bs e =
    let passes = AllPass-from_list_all is_ascii bs e in
    chars-IsAscii bs (IsAscii-from_all bs (λ k d l. let low = passes k d l in grind (arith, nat_tests)))

-- the program, the note and the quotation marks
pub whole_text : (program : List ℕ) → (34 ∷ flat_map (debug_escape 34) program) ++ (note ++ 34 ∷ []) ≡ 34 ∷ (flat_map (debug_escape 34) (program ++ note) ++ 34 ∷ [])
whole_text program =
    sym (append_assoc (34 ∷ flat_map (debug_escape 34) program) note (34 ∷ []))
    ∙ ap (λ l. 34 ∷ (l ++ 34 ∷ [])) (ap (λ n. flat_map (debug_escape 34) program ++ n) (sym note_itself) ∙ sym (flat_map-append (debug_escape 34) program note))

-- a text that is told where a test passes
pub told_if : {W : Type 0} (took : W → List ℕ → W → Type 0) (f g : Formatter W) (r : Result (Unit {0}) Error) (b : Bool) (text : List ℕ)
    → (b ≡ true → WritesOnOk took f r text g) → DisplaysOnOk took f r (if b then Some text else None) g
told_if took f g r true text h = h refl
told_if took f g r false text h = tt
