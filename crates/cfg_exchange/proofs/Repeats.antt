-- What is left of attempts after one of them.
use Rattle.std.proofs.Common.{◌≡◌, ◌≢◌, ℕ, zero, suc, ◌-◌, Bool, true, false, refl, subst, arith}
use Rattle.std.specs.Prelude.{if◌then◌else◌}
use Rattle.cfg_world.specs.declared.ask.Question.{Question}
use Rattle.cfg_world.specs.declared.ask.Answer.{Answer}
use Rattle.cfg_world.specs.declared.asking.Asking.{Ghosts}
use Rattle.cfg_world.specs.Fits.{Pair}
use Rattle.cfg_world.specs.Inquiry.{Inquiry, Done, after}
use Rattle.cfg_world.specs.Follows.{Ends, Waits, Breaks}
use Rattle.cfg_world.proofs.Inquiries.{Leads, leads_after, leads_start, ends_left, ends_done, waits_left, breaks_left, waits_first, breaks_first, breaks_here}
use Rattle.cfg_exchange.specs.Attempts.{asked, attempts}

-- what follows an attempt: another one, or it was the last
abbrev next_one : ℕ → Question → (Answer → Bool) → Pair → Inquiry Pair
next_one more q repeats e = if repeats e.1 then attempts more q repeats else Done e

module _ {W : Type 0} {w : Ghosts W} where
  left_next : {old mid : W} {whole : Inquiry Pair} (more : ℕ) (q : Question) (repeats : Answer → Bool) →
      more ≢ 0 → Leads w whole old mid (attempts more q repeats) → Leads w whole old mid (after (asked q) (next_one (more - 1) q repeats))
  unfolding attempts
  left_next zero q repeats n h = absurd (n refl)
  left_next {old = old} {mid = mid} {whole = whole} (suc more) q repeats n h =
      subst (λ m. Leads w whole old mid (after (asked q) (next_one m q repeats))) (let e : more ≡ suc more - 1 = omega arith in e) h

  left_last : {old mid : W} {whole : Inquiry Pair} (more : ℕ) (q : Question) (repeats : Answer → Bool) → more ≡ 0 → Leads w whole old mid (attempts more q repeats) → Leads w whole old mid (asked q)
  unfolding attempts
  left_last {old = old} {mid = mid} {whole = whole} more q repeats e h = subst (λ m. Leads w whole old mid (attempts m q repeats)) e h

  pub attempts_waits : {old mid new : W} {whole : Inquiry Pair} (more : ℕ) (q : Question) (repeats : Answer → Bool) → Leads w whole old mid (attempts more q repeats) → Waits w (asked q) mid new → Waits w whole old new
  unfolding attempts
  attempts_waits zero q repeats h x = waits_left h x
  attempts_waits (suc more) q repeats h x = waits_left h (waits_first (next_one more q repeats) x)

  pub attempts_breaks : {old mid new : W} {whole : Inquiry Pair} (more : ℕ) (q : Question) (repeats : Answer → Bool) → Leads w whole old mid (attempts more q repeats) → Breaks w (asked q) mid new → Breaks w whole old new
  unfolding attempts
  attempts_breaks zero q repeats h x = breaks_left h x
  attempts_breaks (suc more) q repeats h x = breaks_left h (breaks_first (next_one more q repeats) x)

  -- memory ran out before the question
  pub attempts_quiet : {old mid : W} {whole left : Inquiry Pair} → Leads w whole old mid left → Breaks w whole old mid
  attempts_quiet h = breaks_left h breaks_here

  -- memory ran out while the answer was read
  pub attempts_unread : {old mid new : W} {whole : Inquiry Pair} (more : ℕ) (q : Question) (repeats : Answer → Bool) {e : Pair} →
      Leads w whole old mid (attempts more q repeats) → Ends w (asked q) mid new e → more ≢ 0 → Breaks w whole old new
  attempts_unread more q repeats h x n = attempts_quiet (leads_after (next_one (more - 1) q repeats) (left_next more q repeats n h) x)

  pub attempts_go : {old mid new : W} {whole : Inquiry Pair} (more : ℕ) (q : Question) (repeats : Answer → Bool) {e : Pair} →
      Leads w whole old mid (attempts more q repeats) → Ends w (asked q) mid new e → more ≢ 0 → repeats e.1 ≡ true → Leads w whole old new (attempts (more - 1) q repeats)
  attempts_go {old = old} {new = new} {whole = whole} more q repeats {e = e} h x n t =
      let r = leads_after (next_one (more - 1) q repeats) (left_next more q repeats n h) x in
      subst (λ b. Leads w whole old new (if b then attempts (more - 1) q repeats else Done e)) t r

  pub attempts_stop : {old mid new : W} {whole : Inquiry Pair} (more : ℕ) (q : Question) (repeats : Answer → Bool) {e : Pair} →
      Leads w whole old mid (attempts more q repeats) → Ends w (asked q) mid new e → more ≢ 0 → repeats e.1 ≡ false → Ends w whole old new e
  attempts_stop {old = old} {new = new} {whole = whole} more q repeats {e = e} h x n t =
      let r = leads_after (next_one (more - 1) q repeats) (left_next more q repeats n h) x in
      ends_left (subst (λ b. Leads w whole old new (if b then attempts (more - 1) q repeats else Done e)) t r) ends_done

  pub attempts_end : {old mid new : W} {whole : Inquiry Pair} (more : ℕ) (q : Question) (repeats : Answer → Bool) {e : Pair} →
      Leads w whole old mid (attempts more q repeats) → Ends w (asked q) mid new e → more ≡ 0 → Ends w whole old new e
  attempts_end more q repeats h x z = ends_left (left_last more q repeats z h) x

pub ruleset attempts_steps = (leads_start, attempts_waits, attempts_breaks, attempts_quiet, attempts_unread, attempts_go, attempts_stop, attempts_end)
