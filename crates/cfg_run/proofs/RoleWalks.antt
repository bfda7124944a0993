-- A walk over the roles that are left.
use Rattle.std.proofs.Common.{◌≡◌, ℕ, ◌-◌, List, [], ◌∷◌, ◌++◌, length, take, drop, get_or, Some, None, IfSome, refl, sym, ◌∙◌, ap, subst, append_assoc, arith, length-append, length-drop}
use Rattle.std.proofs.Math.Seq.{take-length}
use Rattle.cfg_types.specs.Keys.{Keys}
use Rattle.cfg_types.specs.declared.settings.CallSettings.{CallSettings}
use Rattle.cfg_world.specs.declared.ask.Question.{Question}
use Rattle.cfg_world.specs.Fits.{Pair}
use Rattle.cfg_world.specs.Inquiry.{Inquiry, Done, Reads, AsksNext}
use Rattle.cfg_world.specs.Replayed.{Replayed, all_entries}
use Rattle.cfg_world.proofs.Inquiries.{asks_first}
use Rattle.cfg_token.specs.Replays.{IsLeftOpen}
use Rattle.cfg_token.proofs.WholeParts.{Handed, all_read, all_asked}
use Rattle.cfg_profile.specs.declared.chain.RoleArn.{RoleArn}
use Rattle.cfg_providers.specs.AssumeRole.{assumes_roles}
use Rattle.cfg_providers.specs.CustomSources.{Answer}
use Rattle.cfg_chain.specs.profile.Profiles.{marked}
use Rattle.cfg_run.specs.declared.last_role.LastRole.{LastRole}
use Rattle.cfg_run.specs.Roles.{signer_in, asked_before, marked_roles, AreLeft}
use Rattle.cfg_run.proofs.ReplaySteps.{if_shown, some_is}
use Rattle.cfg_run.proofs.RoleParts.{reads_done, begun_unmarked}

entry_at : (front : List Pair) (e : Pair) (behind : List Pair) (d : Pair) → get_or (front ++ e ∷ behind) (length front) d ≡ e
entry_at [] e behind d = refl
entry_at (x ∷ front) e behind d = entry_at front e behind d

drop_front : (before rest : List Pair) → drop (length before) (before ++ rest) ≡ rest
drop_front [] rest = refl
drop_front (x ∷ before) rest = drop_front before rest

-- a slice from a place on
pub slice_is : {A : Type 0} (n : ℕ) (xs : List A) → take (length xs - n) (drop n xs) ≡ drop n xs
slice_is n xs = ap (λ k. take k (drop n xs)) (sym (length-drop n xs)) ∙ take-length (drop n xs)

-- the walk: over the roles from a number on, the credentials that sign the entry at the place, and the entries from the
-- first question of its role on
module _ (settings : CallSettings) (roles : List RoleArn) (journal : List Pair) (last : LastRole) (e : Pair) (role : RoleArn) (count : ℕ) (signer : Keys) (slice : List RoleArn) (given part : List Pair) (old now : Replayed)
    (cut : slice ≡ drop last.number roles) (from : given ≡ drop (last.at - count) journal) (is : e ≡ get_or journal last.at e) (first : role ≡ get_or slice 0 role) (counts : count ≡ asked_before role.session_name) (signs : Some signer ≡ signer_in e.0)
    (starts : old ≡ record { handed = []; left = given; unanswered = None }) (grows : now.handed ≡ old.handed ++ part) (made : all_entries now ≡ all_entries old)
    (left : AreLeft settings roles journal last) where
  abbrev rest : List Pair
  rest = left.asked ++ left.entry ∷ left.behind

  abbrev tree : Inquiry Answer
  tree = assumes_roles settings (left.role ∷ left.more) left.signer

  abbrev walked : Inquiry Answer
  walked = assumes_roles settings slice signer

  entry_is : e ≡ left.entry
  entry_is =
      is ∙ subst (λ n. get_or journal n e ≡ left.entry) (sym left.at)
      (subst (λ j. get_or j (length (left.before ++ left.asked)) e ≡ left.entry) (sym left.is.parts) (entry_at (left.before ++ left.asked) left.entry left.behind e))

  signer_is : signer ≡ left.signer
  signer_is = some_is signer left.signer (signs ∙ ap (λ (x : Pair). signer_in x.0) entry_is ∙ left.is.signed)

  same : walked ≡ tree
  same = ap (λ r. assumes_roles settings r signer) (cut ∙ left.there) ∙ ap (assumes_roles settings (left.role ∷ left.more)) signer_is

  count_is : count ≡ length left.asked
  count_is = counts ∙ ap (λ (r : RoleArn). asked_before r.session_name) (first ∙ ap (λ r. get_or r 0 role) (cut ∙ left.there)) ∙ sym left.few

  rest_is : drop (last.at - count) journal ≡ rest
  rest_is =
      let few : last.at - count ≡ length left.before = omega (arith, left.at, count_is, length-append left.before left.asked) in
      subst (λ n. drop n journal ≡ rest) (sym few)
      (subst (λ j. drop (length left.before) j ≡ rest) (sym (left.is.parts ∙ append_assoc left.before left.asked (left.entry ∷ left.behind))) (drop_front left.before rest))

  handed : Handed tree rest given old now part
  handed = record { begun = begun_unmarked settings (left.role ∷ left.more) left.signer rest left.begun; given_is = from ∙ rest_is; old_is = starts; grows = grows; made = made }

  -- it came to its end
  pub walk_whole : (out told : Answer) → Reads walked part out → marked out ≡ told → Reads (marked_roles settings (left.role ∷ left.more) left.signer) rest told
  walk_whole out told reads marks =
      let there_too = subst (λ p. Reads p part out) same reads in
      let all = all_read tree rest given old now part out handed there_too in
      subst (λ o. Reads (marked_roles settings (left.role ∷ left.more) left.signer) rest o) marks (reads_done tree marked rest out (subst (λ j. Reads tree j out) (sym all) there_too))

  -- it stopped at an open question
  pub walk_open : (q : Question) → now.unanswered ≡ Some q → IsLeftOpen now.left now.unanswered → IfSome now.unanswered (AsksNext walked part) → AsksNext (marked_roles settings (left.role ∷ left.more) left.signer) rest q
  walk_open q shown unmet asks =
      let next = all_asked tree rest given old now part handed now.unanswered (subst (λ p. IfSome now.unanswered (AsksNext p part)) same asks) unmet in
      asks_first tree (λ last. Done (marked last)) rest q (if_shown (AsksNext tree rest) now.unanswered q shown next)
