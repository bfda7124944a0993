-- The records are those of the state of its kind.
use Rattle.std.proofs.Common.{◌≡◌, ◌++◌, List, ap, ◌∙◌, subst}
use Rattle.std.specs.Prelude.{OnOk}
use Rattle.std.specs.List.{flat_map}
use Rattle.cfg_base.specs.Moment.{Moment}
use Rattle.cfg_sharing.specs.Readings.{handed_after}
use Rattle.cfg_sharing.proofs.Recording.{of_sso, of_login}
use Rattle.cfg_sharing.proofs.shared.note_recorded.Goals as goal

pub returns-in-Some : goal.returns-in-Some
returns-in-Some c =
    subst (λ (l : List Moment). OnOk c.note_records.result (c.note_records.new.readings.items ≡ c.args.readings.now.items ++ l))
    (ap (flat_map (λ r. handed_after r.receipts)) c.records.ensures.is ∙ of_sso c.args.kept.now.token c.in-Some.state.now c.in-Some.ensures.is)
    c.note_records.ensures

pub returns-in-Some-login_state : goal.returns-in-Some-login_state
returns-in-Some-login_state c =
    subst (λ (l : List Moment). OnOk c.note_records-in-Some-login_state.result (c.note_records-in-Some-login_state.new.readings.items ≡ c.args.readings.now.items ++ l))
    (ap (flat_map (λ r. handed_after r.receipts)) c.records-in-Some-login_state.ensures.is ∙ of_login c.args.kept.now.token c.in-Some-login_state.state.now c.in-Some-login_state.ensures.is)
    c.note_records-in-Some-login_state.ensures
