-- What a role's provider asks IAM Identity Center for.
use Rattle.std.proofs.Common.{◌≡◌, List, [], ◌++◌, Option, Some, None, Ok, Err, refl, sym, ap, ◌∙◌, subst, append-nil, inl, inr}
use Rattle.cfg_world.specs.declared.devices.Devices.{Ghosts}
use Rattle.cfg_world.specs.Fits.{Pair}
use Rattle.cfg_world.specs.Held.{Held}
use Rattle.cfg_world.specs.Leaves.{assuming}
use Rattle.cfg_kept.specs.Kinds.{Value, States}
use Rattle.cfg_kept.specs.KeptInquiry.{KeptInquiry, Gives, Begins, lift}
use Rattle.cfg_kept.proofs.Beginnings.{begins_splits}
use Rattle.cfg_kept.proofs.Told.{run_begins}
use Rattle.cfg_providers.specs.CustomSources.{Answer}
use Rattle.cfg_providers.specs.EnvironmentKeys.{environment}
use Rattle.cfg_sso.specs.RoleRequests.{AsksNoRole}
use Rattle.cfg_sso.proofs.NoRoleAsked.{NeverAsks, begins_without}
use Rattle.cfg_world.specs.Gains.{Gains}
use Rattle.cfg_chain.proofs.Sessions.{begun_said}
use Rattle.cfg_chain.proofs.SignOns.{none_then, signs_then, chain_signs}
use Rattle.cfg_assume_role.specs.declared.call.RoleCall.{RoleCall}
use Rattle.cfg_assume_role.specs.Bases.{Base, ByDefault, ByEnvironment, ByKeys, BySource, IsBaseTree}
use Rattle.cfg_assume_role.specs.Provides.{Provides, Interrupted}
use Rattle.cfg_assume_role.specs.Roles.{exchange, behind_base, role_tree}
use Rattle.cfg_assume_role.specs.SignOns.{BaseSignsOn}

pub behind_without : (call : RoleCall) (given : Answer) → NeverAsks (lift (behind_base call given))
unfolding behind_base exchange assuming
behind_without call (Ok signer) = (refl, λ a. tt)
behind_without call (Err e) = tt

said_nothing : (answer : Answer) (tree : KeptInquiry Answer) (old new : Option States) (found : List Value) (journal : List Pair) → tree ≡ Gives answer → Begins tree old found journal new → AsksNoRole journal
said_nothing answer tree old new found journal is h = subst AsksNoRole (sym (begun_said answer old new found journal (subst (λ t. Begins t old found journal new) is h)).1) tt

pub base_signs : (b : Base) (tree : KeptInquiry Answer) (old new : Option States) (found : List Value) (journal : List Pair) → IsBaseTree b tree → Begins tree old found journal new → BaseSignsOn b found journal
base_signs (ByDefault over) tree old new found journal is h = chain_signs over is.0 old new found journal (subst (λ t. Begins t old found journal new) is.2 h)
base_signs (ByEnvironment env) tree old new found journal is h = said_nothing (environment env) tree old new found journal is h
base_signs (ByKeys keys) tree old new found journal is h = said_nothing (Ok keys) tree old new found journal is h
base_signs (BySource answer) tree old new found journal is h = said_nothing answer tree old new found journal is h

none_behind : (journal part rest : List Pair) → journal ≡ part ++ rest → AsksNoRole part → AsksNoRole rest → AsksNoRole journal
none_behind journal part rest parts h k = subst AsksNoRole (sym parts) (none_then part rest h k)

-- nothing behind the base's part asks for a role's credentials
base_then : (b : Base) (found first then : List Value) (journal part rest : List Pair) → found ≡ first ++ then → journal ≡ part ++ rest → BaseSignsOn b first part → AsksNoRole rest → BaseSignsOn b found journal
base_then (ByDefault over) found first then journal part rest finds parts h k = signs_then over found first then journal part rest finds parts h k
base_then (ByEnvironment env) found first then journal part rest finds parts h k = none_behind journal part rest parts h k
base_then (ByKeys keys) found first then journal part rest finds parts h k = none_behind journal part rest parts h k
base_then (BySource answer) found first then journal part rest finds parts h k = none_behind journal part rest parts h k

pub role_signs : (call : RoleCall) (b : Base) (tree : KeptInquiry Answer) (old new : Option States) (found : List Value) (journal : List Pair) → IsBaseTree b tree → Begins (role_tree call tree) old found journal new → BaseSignsOn b found journal
unfolding role_tree
role_signs call b tree old new found journal is h = elim (begins_splits tree (λ given. lift (behind_base call given)) old new found journal h) [
  | inl begun ↦ base_signs b tree old new found journal is begun
  | inr r ↦
      base_then b found r.found_before r.found_behind journal r.part r.rest r.finds r.parts
      (base_signs b tree old r.middle r.found_before r.part is (run_begins tree old r.middle r.found_before r.part r.outcome r.runs))
      (begins_without (lift (behind_base call r.outcome)) r.middle new r.found_behind r.rest (behind_without call r.outcome) r.begins)
]

-- nothing was asked
pub base_nothing : (b : Base) (found : List Value) → BaseSignsOn b found []
base_nothing (ByDefault over) found = inr tt
base_nothing (ByEnvironment env) found = tt
base_nothing (ByKeys keys) found = tt
base_nothing (BySource answer) found = tt

-- ---- a call

module _ {D : Type 0} (d : Ghosts D) (call : RoleCall) (b : Base) (old new : States) (found : List Value) (before later : Held D) where
  abbrev Signs : Type 0
  Signs = Gains before.journal later.journal (BaseSignsOn b found)

  pub answered : (out : Answer) → Provides d call b old new found before later out → Signs
  answered out h =
      let c = h.is_call in
      record {
        part = h.part;
        grows = h.grows.journal;
        said = role_signs call b c.tree None None found h.part c.is_tree (run_begins (role_tree call c.tree) None None found h.part out c.reads);
      }

  pub interrupted : Interrupted d call b old new found before later → Signs
  interrupted (inl h) = record { part = []; grows = ap (λ x. x.journal) h.0 ∙ sym (append-nil before.journal); said = base_nothing b found }
  interrupted (inr h) = record { part = h.part; grows = h.stays.journal; said = role_signs call b h.tree (Some old) (Some new) found h.part h.is_tree h.begins }
