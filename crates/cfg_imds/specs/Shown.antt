-- What Debug texts show.
use Rattle.std.specs.Prelude.{ℕ, List, ◌++◌, codes}
use Rattle.std.specs.Fmt.{decimal, signed_decimal}
use Rattle.cfg_base.specs.Moment.{Moment}

-- the Debug text of a metadata token: when it ends
abbrev pub shown_metadata_token : Moment → List ℕ
shown_metadata_token expiry =
    codes "MetadataToken { value: \"** redacted **\", expiry: " ++ (signed_decimal expiry.seconds ++ (codes " s " ++ (decimal expiry.nanos ++ codes " ns }")))
