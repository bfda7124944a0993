-- Each piece behind the one before it.
use Rattle.std.proofs.Common.{◌≡◌, ℕ, List, [], ◌∷◌, ◌++◌, append_assoc}
use Rattle.std.specs.Prelude.{codes}
use Rattle.std.specs.Str.{encode_utf8_all}
use Rattle.cfg_program.specs.Lines.{shown_text, shown_expiry}
use Rattle.cfg_program.proofs.lines.write_credentials.Goals as goal

-- what each step left
steps : (a b c d e f g w t u m : List ℕ) → b ≡ a ++ w → c ≡ b ++ t → d ≡ c ++ 32 ∷ [] → e ≡ d ++ u → f ≡ e ++ 32 ∷ [] → g ≡ f ++ m → g ≡ a ++ (w ++ (t ++ (32 ∷ (u ++ (32 ∷ m)))))
steps a b c d e f g w t u m eb ec ed ee ef eg = rw (eg, ef, ee, ed, ec, eb) (simp append_assoc)

pub returns : goal.returns
returns c =
    let keys = c.args.credentials.now in
    steps c.args.line.now.items _ _ _ _ _ _ (codes "credentials ") (shown_text (encode_utf8_all keys.access_key_id)) (shown_text (encode_utf8_all keys.provider_name)) (shown_expiry keys.expiry)
    c.in_ok-write_word.ensures (rw c.access_key_id.ensures.bytes at c.in_ok-write_text.ensures) c.in_ok-push.ensures.items (rw c.provider_name.ensures.bytes at c.in_ok-write_text-2.ensures) c.in_ok-push-2.ensures.items (rw c.expiry.ensures at c.in_ok-write_expiry.ensures)
