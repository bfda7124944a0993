use Rattle.std.proofs.Common.{Ok, Err, refl}
use Rattle.std.specs.Prelude.{◌↔◌, Result, IsSome, IsNone}
use Rattle.std.specs.Result.{result_ok, result_err}
use Rattle.cfg_script.specs.Endpoints.{endpoint, endpoint_of, endpoint_fault_of}
use Rattle.cfg_script.specs.Settings.{script}
use Rattle.cfg_script.specs.Shares.{share}
use Rattle.cfg_script.specs.Audits.{audit}
use Rattle.cfg_script.specs.Reading.{Reason, bytes_said, script_of, fault_of, share_of, share_fault_of, audit_of, audit_fault_of}
use Rattle.cfg_script.proofs.laws.a_fault_is_told_where_there_is_no_script.Goals as goal

one_of_both : {A : Type 0} (r : Result A Reason) → IsSome (result_err r) ↔ IsNone (result_ok r)
one_of_both (Ok p) = (λ i. cc, λ h. cc)
one_of_both (Err reason) = (λ i. refl, λ h. refl)

pub returns : goal.returns
unfolding script_of fault_of share_of share_fault_of audit_of audit_fault_of endpoint_of endpoint_fault_of
returns c = record {
  script = λ bytes. one_of_both (bytes_said script bytes);
  share = λ bytes. one_of_both (bytes_said share bytes);
  audit = λ bytes. one_of_both (bytes_said audit bytes);
  endpoint = λ bytes. one_of_both (bytes_said endpoint bytes);
}
