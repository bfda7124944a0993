-- What is kept of a run, copied and taken back.
use Rattle.std.proofs.Common.{◌≡◌, ℕ, length, take, List, ◌++◌, ◌∙◌, ap}
use Rattle.std.proofs.Math.Seq.{take-append_seam}
use Rattle.cfg_world.specs.Fits.{Pair}
use Rattle.cfg_kept.specs.declared.kept.Kept.{Kept}
use Rattle.cfg_kept.specs.KeptStates.{states_of, bare_place}
use Rattle.cfg_kept.specs.KeyedStates.{sso_kept, login_kept}
use Rattle.cfg_run.specs.CallSoFar.{CallSoFar}

-- a copy has the states of its source
pub same_states : (one other : Kept) → one.token ≡ other.token → one.chain ≡ other.chain → one.named ≡ other.named → states_of one ≡ states_of other
same_states one other token chain named =
    λ i. record { sso = sso_kept (token i); login = login_kept (token i); chain = bare_place (chain i); named = bare_place (named i) }

-- with the new receipt given up, all is as it was
pub call_taken_back : (before handed left : CallSoFar) (receipt asked : List Pair) (count : ℕ) → asked ≡ before.asked → count ≡ length asked →
    handed ≡ record before { asked = before.asked ++ receipt } → left ≡ record handed { asked = take count handed.asked } → left ≡ before
call_taken_back before handed left receipt asked count same counted grew cut =
    cut
    ∙ ap (λ (s : CallSoFar). record s { asked = take count s.asked }) grew
    ∙ ap (λ (xs : List Pair). record before { asked = xs }) (ap (λ n. take n (before.asked ++ receipt)) (counted ∙ ap length same) ∙ take-append_seam before.asked receipt)

-- the receipts that there were stay
pub asked_taken_back : (before handed : CallSoFar) (receipt : List Pair) (count : ℕ) → count ≡ length before.asked → handed ≡ record before { asked = before.asked ++ receipt } → take count handed.asked ≡ before.asked
asked_taken_back before handed receipt count counted grew =
    ap (λ (s : CallSoFar). take count s.asked) grew ∙ ap (λ n. take n (before.asked ++ receipt)) counted ∙ take-append_seam before.asked receipt
