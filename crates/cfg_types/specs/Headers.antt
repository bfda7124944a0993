-- Headers of a reply.
use Rattle.std.specs.Prelude.{ℕ, List, Option, option_map}
use Rattle.std.specs.List.{find}
use Rattle.std.specs.Str.{encode_utf8_all, str_eq_ignore_ascii_case}
use Rattle.cfg_types.specs.declared.reply.http.Header.{Header}

-- the value of the first header of this name, whatever the ASCII case of both
abbrev pub header : List Header → List ℕ → Option (List ℕ)
header headers name = option_map (λ h. h.value) (find (λ h. str_eq_ignore_ascii_case (encode_utf8_all h.name) name) headers)
