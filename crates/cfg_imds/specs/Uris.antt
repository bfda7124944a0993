-- Texts that are URIs.
use Rattle.std.specs.Prelude.{ℕ, List, Option}
use Rattle.http_uri.specs.Grammar.{IsUriText}

-- a text that `http_uri` reads
pub record IsUri (text : List ℕ) : Type 0 where
  pub scheme : Option (List ℕ)
  pub authority : Option (List ℕ)
  pub kept : List ℕ
  pub uri : IsUriText text scheme authority kept
