-- Which texts are paths of the instance metadata service.
use Rattle.std.specs.Prelude.{◌≡◌, ℕ, List, [], ◌∷◌, Bool, true, false, ◌&&◌, nat_eq, nat_le, length, Option, Some, None}
use Rattle.std.specs.List.{list_all}
use Rattle.std.specs.Str.{is_utf8}
use Rattle.http_uri.specs.ByteClasses.{is_path_byte, is_query_byte, split_once_front, split_once_back, question_mark}
use Rattle.http_uri.specs.Grammar.{IsUriText, without_fragment}

-- the text begins with `/`
abbrev pub begins_with_slash : List ℕ → Bool
begins_with_slash [] = false
begins_with_slash (b ∷ text) = nat_eq b 47

abbrev pub is_query : Option (List ℕ) → Bool
is_query None = true
is_query (Some query) = list_all is_query_byte query

-- a path and, behind `?`, a query, as `http_uri` reads them
abbrev pub is_path_and_query : List ℕ → Bool
is_path_and_query text = list_all is_path_byte (split_once_front question_mark text) && (is_query (split_once_back question_mark text) && is_utf8 text)

-- A text that begins with `/` and that `http_uri` reads: of at most 65,534 bytes, and what stands before
-- a `#` is a path and a query.
unfoldable pub is_path : List ℕ → Bool
is_path text = begins_with_slash text && (nat_le (length text) 65534 && is_path_and_query (without_fragment text))

-- a URI that begins with `/`
pub record IsPath (text : List ℕ) : Type 0 where
  pub rest : List ℕ
  pub begins : text ≡ 47 ∷ rest
  pub scheme : Option (List ℕ)
  pub authority : Option (List ℕ)
  pub kept : List ℕ
  pub uri : IsUriText text scheme authority kept
