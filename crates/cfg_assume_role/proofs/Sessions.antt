-- What a role's provider reads of sign-in sessions.
use Rattle.std.proofs.Common.{◌≡◌, List, [], ◌++◌, Option, Some, None, Ok, refl, sym, ap, ◌∙◌, subst, append-nil, inl, inr}
use Rattle.cfg_world.specs.declared.devices.Devices.{Ghosts}
use Rattle.cfg_world.specs.Fits.{Pair, EachFits}
use Rattle.cfg_world.specs.Held.{Held}
use Rattle.cfg_kept.specs.Kinds.{Value, States}
use Rattle.cfg_kept.specs.KeptInquiry.{KeptInquiry, Gives, Reads, Begins, lift}
use Rattle.cfg_kept.proofs.Beginnings.{begins_splits}
use Rattle.cfg_kept.proofs.Splits.{lowered, split_onwards}
use Rattle.cfg_kept.proofs.CallParts.{read_of_run}
use Rattle.cfg_kept.proofs.Told.{run_begins}
use Rattle.cfg_providers.specs.CustomSources.{Answer}
use Rattle.cfg_providers.specs.EnvironmentKeys.{environment}
use Rattle.cfg_world.specs.Gains.{Gains}
use Rattle.cfg_chain.specs.Settings.{setting}
use Rattle.cfg_chain.proofs.MemberCauses.{resolved}
use Rattle.cfg_chain.proofs.Sessions.{fits_first, begun_lift, begun_said, chain_reads, chain_begun_in}
use Rattle.cfg_assume_role.specs.declared.call.RoleCall.{RoleCall}
use Rattle.cfg_assume_role.specs.Bases.{Base, ByDefault, ByEnvironment, ByKeys, BySource, IsBaseTree}
use Rattle.cfg_assume_role.specs.Provides.{Provides, Interrupted}
use Rattle.cfg_assume_role.specs.Roles.{behind_base, role_tree}
use Rattle.cfg_assume_role.specs.Sessions.{BaseReadsSession, RoleReadsSession, BaseStopsInSession, RoleStopsInSession}

-- ---- the base

begun_quiet : (answer : Answer) (tree : KeptInquiry Answer) (old new : Option States) (found : List Value) (part : List Pair) → tree ≡ Gives answer → Begins tree old found part new → (found ≡ []) × (part ≡ [])
begun_quiet answer tree old new found part is h = begun_said answer old new found part (subst (λ t. Begins t old found part new) is h)

reads_quiet : (answer : Answer) (tree : KeptInquiry Answer) (found : List Value) (part : List Pair) (given : Answer) → tree ≡ Gives answer → Reads tree found part given → (found ≡ []) × (part ≡ [])
reads_quiet answer tree found part given is h = begun_quiet answer tree None None found part is (run_begins tree None None found part given h)

base_reads : (b : Base) (tree : KeptInquiry Answer) (found : List Value) (part : List Pair) (given : Answer) → IsBaseTree b tree → EachFits part → Reads tree found part given → BaseReadsSession b found part given
base_reads (ByDefault over) tree found part given is fits h =
    chain_reads over is.0 found part given fits (resolved (setting over is.0) found part given (subst (λ t. Reads t found part given) is.2 h))
base_reads (ByEnvironment env) tree found part given is fits h = reads_quiet (environment env) tree found part given is h
base_reads (ByKeys keys) tree found part given is fits h = reads_quiet (Ok keys) tree found part given is h
base_reads (BySource answer) tree found part given is fits h = reads_quiet answer tree found part given is h

base_stops : (b : Base) (tree : KeptInquiry Answer) (old new : Option States) (found : List Value) (part : List Pair) → IsBaseTree b tree → EachFits part → Begins tree old found part new → BaseStopsInSession b found part
base_stops (ByDefault over) tree old new found part is fits h = chain_begun_in over is.0 old new found part fits (subst (λ t. Begins t old found part new) is.2 h)
base_stops (ByEnvironment env) tree old new found part is fits h = begun_quiet (environment env) tree old new found part is h
base_stops (ByKeys keys) tree old new found part is fits h = begun_quiet (Ok keys) tree old new found part is h
base_stops (BySource answer) tree old new found part is fits h = begun_quiet answer tree old new found part is h

-- ---- the base, and then the request

module _ (call : RoleCall) (b : Base) (tree : KeptInquiry Answer) (is : IsBaseTree b tree) where
  pub role_reads : (found : List Value) (journal : List Pair) (out : Answer) → EachFits journal → Reads (role_tree call tree) found journal out → RoleReadsSession call b found journal out
  unfolding role_tree
  role_reads found journal out fits h =
      let r = split_onwards tree (λ given. lift (behind_base call given)) found journal out h in
      let l = lowered (behind_base call r.middle) r.found_then r.rest out r.then in
      let all : found ≡ r.found_first = r.finds ∙ ap (λ t. r.found_first ++ t) l.0 ∙ append-nil r.found_first in
      record {
        base_part = r.part;
        role_part = r.rest;
        given = r.middle;
        parts = r.parts;
        reads = base_reads b tree found r.part r.middle is (fits_first r.part r.rest (subst EachFits r.parts fits)) (subst (λ f. Reads tree f r.part r.middle) (sym all) r.first);
        signs = l.1;
      }

  pub role_stops : (old new : Option States) (found : List Value) (journal : List Pair) → EachFits journal → Begins (role_tree call tree) old found journal new → RoleStopsInSession call b found journal
  unfolding role_tree
  role_stops old new found journal fits h = elim (begins_splits tree (λ given. lift (behind_base call given)) old new found journal h) [
    | inl begun ↦ inr (inl (base_stops b tree old new found journal is fits begun))
    | inr r ↦
        let l = begun_lift (behind_base call r.outcome) r.middle new r.found_behind r.rest r.begins in
        let all : found ≡ r.found_before = r.finds ∙ ap (λ t. r.found_before ++ t) l.0 ∙ append-nil r.found_before in
        inl (record {
          base_part = r.part;
          role_part = r.rest;
          given = r.outcome;
          parts = r.parts;
          reads = base_reads b tree found r.part r.outcome is (fits_first r.part r.rest (subst EachFits r.parts fits))
              (subst (λ f. Reads tree f r.part r.outcome) (sym all) (read_of_run tree old r.middle r.found_before r.part r.outcome r.runs));
          signs = l.1;
        })
  ]

-- ---- a call

module _ {D : Type 0} (d : Ghosts D) (call : RoleCall) (b : Base) (old new : States) (found : List Value) (before later : Held D) where
  pub answered : (out : Answer) → Provides d call b old new found before later out → Gains before.journal later.journal (λ part. RoleReadsSession call b found part out)
  answered out h =
      let c = h.is_call in
      record { part = h.part; grows = h.grows.journal; said = role_reads call b c.tree c.is_tree found h.part out h.grows.fits c.reads }

  pub interrupted : Interrupted d call b old new found before later → Gains before.journal later.journal (RoleStopsInSession call b found)
  interrupted (inl h) = record { part = []; grows = ap (λ x. x.journal) h.0 ∙ sym (append-nil before.journal); said = inr (inr refl) }
  interrupted (inr h) = record { part = h.part; grows = h.stays.journal; said = role_stops call b h.tree h.is_tree (Some old) (Some new) found h.part h.stays.fits h.begins }
