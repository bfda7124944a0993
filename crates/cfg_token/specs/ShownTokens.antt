-- The Debug text of a token, which depends on no secret.
use Rattle.std.specs.Prelude.{ℕ, List, ◌++◌, codes}
use Rattle.std.specs.Fmt.{decimal, signed_decimal}
use Rattle.cfg_base.specs.Moment.{Moment}

-- a token of IAM Identity Center: when it expires
abbrev pub shown_sso_token : Moment → List ℕ
shown_sso_token end = codes "CachedSsoToken { secrets: \"** redacted **\", expires_at: " ++ (signed_decimal end.seconds ++ (codes " s " ++ (decimal end.nanos ++ codes " ns }")))
