-- Addresses that were configured, without user information and query.
use Rattle.std.specs.Prelude.{◌≡◌, ℕ, List, [], ◌∷◌, ◌++◌, length, Bool, Option, Some, None, ◌==◌, codes, if◌then◌else◌}
use Rattle.std.specs.List.{before_first}

-- what stands before the first `?` and the first `#`
abbrev pub before_query : List ℕ → List ℕ
before_query text = before_first (λ b. b == 35) (before_first (λ b. b == 63) text)

-- whether there is no `?` and no `#`
abbrev pub has_no_query : List ℕ → Bool
has_no_query text = length (before_query text) == length text

-- the whole text where it has none of these, else what stands before the first, and `..`
abbrev pub without_query : List ℕ → List ℕ
without_query text = if has_no_query text then text else before_query text ++ codes ".."

abbrev pub cut_below : ℕ → ℕ → List ℕ → Option (List ℕ × List ℕ) → Option (List ℕ × List ℕ)
cut_below mark b text None = if b == mark then Some ([], text) else None
cut_below mark b text (Some parts) = Some (b ∷ parts.0, parts.1)

-- what stands before and behind the last of these marks, where there is one
abbrev pub cut_at_last : ℕ → List ℕ → Option (List ℕ × List ℕ)
cut_at_last mark [] = None
cut_at_last mark (b ∷ text) = cut_below mark b text (cut_at_last mark text)

-- an address by what stands before and behind its last `@`
abbrev pub behind_user : List ℕ → List ℕ → List ℕ
behind_user user rest = if has_no_query user then codes "..@" ++ without_query rest else codes ".."

abbrev pub address_parts : List ℕ → Option (List ℕ × List ℕ) → List ℕ
address_parts text None = without_query text
address_parts text (Some parts) = behind_user parts.0 parts.1

-- An address, with `..` in place of what stands before its last `@`, and of what stands behind its first `?` or `#`.
-- Where that `@` stands behind the first of these, nothing of it is shown.
abbrev pub shown_address : List ℕ → List ℕ
shown_address text = address_parts text (cut_at_last 64 text)

-- a text without `?` and `#`
abbrev pub HasNoQuery : List ℕ → Type 0
HasNoQuery text = before_query text ≡ text

-- a text without `@`
abbrev pub HasNoAt : List ℕ → Type 0
HasNoAt text = cut_at_last 64 text ≡ None
