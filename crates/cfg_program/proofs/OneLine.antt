-- One journal over what is handed in has one line.
use Rattle.std.proofs.Common.{◌≡◌, ℕ, List, [], ◌∷◌, ◌++◌, Bool, refl, ◌∙◌, sym, ap, subst}
use Rattle.std.proofs.lemmas.List.{append_cancel_left}
use Rattle.std.specs.Prelude.{is_ok}
use Rattle.cfg_world.specs.Fits.{Pair}
use Rattle.cfg_world.specs.Agreeing.{AnswerAlike}
use Rattle.cfg_providers.specs.CustomSources.{Answer}
use Rattle.cfg_kept.specs.Kinds.{no_states}
use Rattle.cfg_chain.specs.Settings.{ChainSetting}
use Rattle.cfg_chain.specs.Provides.{IsCall}
use Rattle.cfg_chain.proofs.Calls.{one_journal}
use Rattle.cfg_program.specs.Lines.{shown}
use Rattle.cfg_program.specs.Calls.{Made}
use Rattle.cfg_program.specs.Local.{CallAnswers}

-- a journal's answers agree with themselves
alike : (journal : List Pair) → AnswerAlike journal journal
alike [] = tt
alike (e ∷ journal) = λ same. (refl, alike journal)

module _ (over : ChainSetting) (part : List Pair) where
  same_made : (m n : Made) → m.journal ≡ part → n.journal ≡ part → IsCall over no_states m.kept m.found m.journal m.out → IsCall over no_states n.kept n.found n.journal n.out → m.out ≡ n.out
  same_made m n e f a b =
      let r = one_journal over no_states m.kept n.kept m.found n.found part part m.out n.out
      (subst (λ (j : List Pair). IsCall over no_states m.kept m.found j m.out) e a)
      (subst (λ (j : List Pair). IsCall over no_states n.kept n.found j n.out) f b) (alike part) in
      r.2

  pub one_line : (a b : Bool) (line other : List ℕ) → CallAnswers over part a line → CallAnswers over part b other → (a ≡ b) × (line ≡ other)
  one_line a b line other x y =
      let out = same_made x.call y.call x.asked y.asked x.made y.made in (
        x.credentials ∙ ap (λ (o : Answer). is_ok o) out ∙ sym y.credentials,
        x.shows ∙ ap (λ (o : Answer). shown o x.call.journal) out ∙ ap (λ (j : List Pair). shown y.call.out j) (x.asked ∙ sym y.asked) ∙ sym y.shows,
      )

-- what one journal gained is one part
pub one_part : (before after part more : List Pair) → after ≡ before ++ part → after ≡ before ++ more → part ≡ more
one_part before after part more h k = append_cancel_left before part more (sym h ∙ k)
