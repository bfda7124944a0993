-- One line, and then more.
use Rattle.std.proofs.Common.{◌≡◌, ℕ, List, [], ◌∷◌, ◌++◌, ap, ◌∙◌, append_assoc, codes}
use Rattle.std.specs.Prelude.{IfSome}
use Rattle.cfg_types.specs.ErrorTexts.{cached_token_text, profile_text}
use Rattle.cfg_types.specs.declared.errors.sso.CachedSsoTokenError.{CachedSsoTokenError}
use Rattle.cfg_types.specs.declared.errors.sso.CachedSsoTokenError.TheVariants as cached
use Rattle.cfg_types.specs.declared.errors.profile.ProfileFileError.{ProfileFileError}
use Rattle.cfg_types.specs.declared.errors.profile.ProfileFileError.TheVariants as profile
use Rattle.cfg_error_report.specs.Lines.{Line, detailed}
use Rattle.cfg_error_report.specs.Words.{profile_lines}
use Rattle.cfg_error_report.specs.Parts.{cached_token_lines}

-- lines behind a first one
pub behind_first : (old mid more : List Line) (first : Line) → mid ≡ old ++ first ∷ [] → mid ++ more ≡ old ++ first ∷ more
behind_first old mid more first is = ap (λ (l : List Line). l ++ more) is ∙ append_assoc old (first ∷ []) more

-- a detail of these two errors
pub home_lines : (e : CachedSsoTokenError) (old new : List Line) (depth : ℕ) → e ≡ cached.NoHomeDirectory
    → new ≡ old ++ detailed (cached_token_text e) (codes "the variable `HOME` cannot be read") depth → new ≡ old ++ cached_token_lines e depth
home_lines e old new depth is h = rw is (rw is at h)

pub no_profiles_lines : (e : ProfileFileError) (old new : List Line) (depth : ℕ) → e ≡ profile.NoProfilesDefined
    → IfSome (profile_text e) (λ t. new ≡ old ++ detailed t (codes "there are no profiles, or `default` is selected and is not there") depth) → new ≡ old ++ profile_lines e depth
no_profiles_lines e old new depth is h = rw is (rw is at h)
