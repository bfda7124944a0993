-- What an error tells, line by line, and in one line.
use Rattle.std.specs.Prelude.{ℕ, List, [], ◌∷◌, ◌++◌, codes}
use Rattle.std.specs.List.{flat_map}
use Rattle.cfg_error_report.specs.declared.kind.LineKind.{LineKind}
use Rattle.cfg_error_report.specs.declared.kind.LineKind.TheVariants as kind

-- One line: what it is, how deep it stands, and its text or name.
pub record Line : Type 0 where
  pub kind : LineKind
  pub depth : ℕ
  pub text : List ℕ

-- the line of an error or of a cause
abbrev pub cause_line : ℕ → List ℕ → Line
cause_line depth text = record { kind = kind.Cause; depth = depth; text = text }

-- the line of a detail of the error or the cause before it
abbrev pub detail_line : ℕ → List ℕ → Line
detail_line depth text = record { kind = kind.Detail; depth = depth; text = text }

-- the line of a member of this name
abbrev pub member_line : ℕ → List ℕ → Line
member_line depth name = record { kind = kind.Member; depth = depth; text = name }

-- the lines of an error, by the depth that the first one stands at
abbrev pub Telling : Type 0
Telling = ℕ → List Line

-- nothing more
abbrev pub nothing : Telling
nothing depth = []

-- one text, and what follows it
abbrev pub followed : List ℕ → Telling → Telling
followed text later depth = cause_line depth text ∷ later depth

-- one text, and nothing below it
abbrev pub just : List ℕ → Telling
just text depth = cause_line depth text ∷ []

-- one text, and a detail of it
abbrev pub detailed : List ℕ → List ℕ → Telling
detailed text detail depth = cause_line depth text ∷ detail_line depth detail ∷ []

-- what stands before a line that follows another in the same line
abbrev pub joint : LineKind → List ℕ
joint kind.Cause = codes ": "
joint kind.Member = codes "; "
joint kind.Detail = codes " ("

-- what stands behind such a line
abbrev pub closing : LineKind → List ℕ
closing kind.Detail = codes ")"
closing _ = []

abbrev pub joined : Line → List ℕ
joined line = joint line.kind ++ (line.text ++ closing line.kind)

-- all in one line
abbrev pub one_line : List Line → List ℕ
one_line [] = []
one_line (first ∷ later) = first.text ++ flat_map joined later
