-- The members, one after another.
use Rattle.std.proofs.Common.{Option, Some, option_map, codes, ap, ◌∙◌}
use Rattle.serde_json.specs.Data.{Data, Members, string, object}
use Rattle.cfg_base.specs.Moment.{Moment}
use Rattle.cfg_lines.specs.Members.{object_with, put_or_keep, text_value, list_value}
use Rattle.cfg_drive.specs.Objects.{told_in}
use Rattle.cfg_drive.specs.Outcomes.{credentials_value, moment_value, passed_over_value}
use Rattle.cfg_drive.proofs.outcome.credentials.Goals as goal

pub returns : goal.returns
unfolding credentials_value object_with
returns c =
    let keys = c.args.keys.now in
    let first = c.in_ok-object.ensures ∙ ap (λ (ms : Members). put_or_keep (codes "outcome") (Some (string (codes "credentials"))) ms) c.new.ensures in
    let second = c.in_ok-object-2.ensures ∙ ap (λ (ms : Members). put_or_keep (codes "secret") (Some (text_value keys.secret_access_key)) (put_or_keep (codes "id") (Some (text_value keys.access_key_id)) (put_or_keep (codes "provider") (Some (text_value keys.provider_name)) ms))) first in
    let third = c.in_ok-object-3.ensures ∙ ap (λ (ms : Members). put_or_keep (codes "token") (option_map text_value keys.session_token) ms) second in
    let fourth = c.in_ok-object-4.ensures ∙ ap (λ (ms : Members). put_or_keep (codes "account") (option_map text_value keys.account_id) ms) third in
    let fifth = c.in_ok-with_expiry.ensures
    ∙ ap (λ (x : Option Moment). put_or_keep (codes "expires") (option_map moment_value x) (told_in c.in_ok-object-4.object)) c.expiry.ensures
    ∙ ap (λ (ms : Members). put_or_keep (codes "expires") (option_map moment_value keys.expiry) ms) fourth in
    let sixth = c.in_ok-with.ensures
    ∙ ap (λ (d : Data). put_or_keep (codes "passed_over") (Some d) (told_in c.in_ok-with_expiry.field-0)) c.in_ok-passed_over_list.ensures
    ∙ ap (λ (ms : Members). put_or_keep (codes "passed_over") (Some (list_value passed_over_value c.args.passed.now)) ms) fifth in
    c.into_value.ensures ∙ ap object (c.in_ok-object-5.ensures ∙ ap (λ (ms : Members). put_or_keep (codes "line") (Some (string c.args.resolved.now)) ms) sixth)
