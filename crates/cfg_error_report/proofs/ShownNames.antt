-- A text of a profile's error that is known is the one that is told.
use Rattle.std.proofs.Common.{◌≡◌, ℕ, List, [], ◌∷◌, ◌++◌, Option, Some, None, refl, sym, ap, ◌∙◌, append_assoc, codes}
use Rattle.std.specs.Prelude.{unwrap_or}
use Rattle.std.specs.List.{flat_map}
use Rattle.std.specs.Str.{encode_utf8_all}
use Rattle.std.specs.Fmt.{◌++?◌, debug_items, debug_str, comma_space}
use Rattle.cfg_types.specs.ErrorTexts.{profile_text}
use Rattle.cfg_types.specs.declared.errors.profile.ProfileFileError.{ProfileFileError}
use Rattle.cfg_types.specs.declared.errors.profile.ProfileFileError.TheVariants as profile
use Rattle.cfg_error_report.specs.Words.{known, quoted_names, later_quoted, profile_words}

some_is : (x y : List ℕ) → ◌≡◌ {A = Option (List ℕ)} (Some x) (Some y) → x ≡ y
some_is x y h = cc

-- a name as Debug shows it
abbrev shown_name : List ℕ → Option (List ℕ)
shown_name name = debug_str (encode_utf8_all name)

-- one name more, with what stands before it
one_more : (lead : List ℕ) (o r : Option (List ℕ)) (other more t : List ℕ) → ((m : List ℕ) → r ≡ Some m → more ≡ m) → (Some lead ++? (o ++? r)) ≡ Some t → (lead ++ unwrap_or o other) ++ more ≡ t
one_more lead None r other more t f h = cc
one_more lead (Some q) None other more t f h = cc
one_more lead (Some q) (Some m) other more t f h =
    ap (λ (y : List ℕ). (lead ++ q) ++ y) (f m refl) ∙ append_assoc lead q m ∙ some_is (lead ++ (q ++ m)) t h

later_names : (names : List (List ℕ)) (t : List ℕ) → debug_items shown_name comma_space names ≡ Some t → flat_map later_quoted names ≡ t
later_names [] t h = some_is [] t h
later_names (name ∷ names) t h =
    one_more comma_space (shown_name name) (debug_items shown_name comma_space names) (codes "\"" ++ (encode_utf8_all name ++ codes "\"")) (flat_map later_quoted names) t (λ m e. later_names names m e) h

all_names : (names : List (List ℕ)) (t : List ℕ) → debug_items shown_name [] names ≡ Some t → quoted_names names ≡ t
all_names [] t h = some_is [] t h
all_names (name ∷ names) t h =
    one_more [] (shown_name name) (debug_items shown_name comma_space names) (codes "\"" ++ (encode_utf8_all name ++ codes "\"")) (flat_map later_quoted names) t (λ m e. later_names names m e) h

in_brackets : (items : Option (List ℕ)) (names behind t : List ℕ) → ((m : List ℕ) → items ≡ Some m → names ≡ m)
    → (Some (codes "profile formed an infinite loop. first we loaded ") ++? ((Some (91 ∷ []) ++? (items ++? Some (93 ∷ []))) ++? Some behind)) ≡ Some t
    → codes "profile formed an infinite loop. first we loaded [" ++ (names ++ (93 ∷ behind)) ≡ t
in_brackets None names behind t f h = cc
in_brackets (Some m) names behind t f h =
    ap (λ (y : List ℕ). codes "profile formed an infinite loop. first we loaded [" ++ (y ++ (93 ∷ behind))) (f m refl)
    ∙ ap (λ (y : List ℕ). codes "profile formed an infinite loop. first we loaded [" ++ y) (sym (append_assoc m (93 ∷ []) behind))
    ∙ some_is (codes "profile formed an infinite loop. first we loaded [" ++ ((m ++ 93 ∷ []) ++ behind)) t h

known_is : (o : Option (List ℕ)) (t : List ℕ) → o ≡ Some t → known o ≡ t
known_is o t h = ap known h

pub shown_words : (e : ProfileFileError) (t : List ℕ) → profile_text e ≡ Some t → profile_words e ≡ t
shown_words (profile.InvalidProfile text) t h = known_is _ t h
shown_words profile.NoProfilesDefined t h = known_is _ t h
shown_words (profile.ProfileDidNotContainCredentials p) t h = known_is _ t h
shown_words (profile.CredentialLoop path next) t h =
    in_brackets (debug_items shown_name [] path) (quoted_names path) (codes ", then attempted to reload " ++ encode_utf8_all next) t (λ m e. all_names path m e) h
shown_words (profile.MissingCredentialSource p m) t h = known_is _ t h
shown_words (profile.InvalidCredentialSource p m) t h = known_is _ t h
shown_words (profile.MissingProfile p m) t h = known_is _ t h
shown_words (profile.UnknownProvider name) t h = known_is _ t h
shown_words (profile.FeatureNotEnabled feature m) t h = known_is _ t h
shown_words (profile.MissingSsoSession p session) t h = known_is _ t h
shown_words (profile.InvalidSsoConfig p m) t h = known_is _ t h
shown_words profile.TokenProviderConfig t h = known_is _ t h
shown_words profile.OutOfMemory t h = known_is _ t h
