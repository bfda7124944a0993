-- The key that proves possession (DPoP, RFC 9449), as a file keeps it.
use Rattle.std.specs.Prelude.{ℕ, List, [], ◌∷◌, ◌++◌, ◌==◌, ◌&&◌, if◌then◌else◌}
use Rattle.cfg_base.specs.Text.{characters}
use Rattle.cfg_json.specs.Ascii.{backslash, line_feed, small_n}

-- each backslash that is followed by `n` is, with it, a line feed
unfoldable pub with_line_feeds : List ℕ → List ℕ
with_line_feeds [] = []
with_line_feeds (c ∷ []) = c ∷ []
with_line_feeds (c ∷ d ∷ t) = if (c == backslash) && (d == small_n) then line_feed ∷ with_line_feeds t else c ∷ with_line_feeds (d ∷ t)

-- the text that comes of what is written so far and the characters that are left
abbrev pub written_and_left : List ℕ → List ℕ → List ℕ
written_and_left bytes rest = characters bytes ++ with_line_feeds rest
