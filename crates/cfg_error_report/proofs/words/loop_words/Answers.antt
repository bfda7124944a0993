-- Each piece behind the one before it.
use Rattle.std.proofs.Common.{◌≡◌, ℕ, List, ◌++◌, append_assoc}
use Rattle.std.specs.Prelude.{codes}
use Rattle.std.specs.Str.{encode_utf8_all}
use Rattle.cfg_error_report.specs.Words.{quoted_names}
use Rattle.cfg_error_report.proofs.words.loop_words.Goals as goal

-- what each step left
steps : (a b c d w n t u : List ℕ) → a ≡ w → b ≡ a ++ n → c ≡ b ++ t → d ≡ c ++ u → d ≡ w ++ (n ++ (t ++ u))
steps a b c d w n t u ea eb ec ed = rw (ed, ec, eb, ea) (simp append_assoc)

pub returns : goal.returns
returns c =
    steps _ _ _ _ (codes "profile formed an infinite loop. first we loaded [") (quoted_names c.args.path.now) (codes "], then attempted to reload ") (encode_utf8_all c.args.next.now)
    c.in_ok-words.ensures.ok c.in_ok-write_names.ensures c.in_ok-push_str.ensures.bytes (rw c.as_str.ensures.bytes at c.in_ok-push_str-2.ensures.bytes)
