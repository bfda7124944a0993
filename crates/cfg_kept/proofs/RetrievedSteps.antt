-- Credentials that are read from a document are those that their receipts tell.
use Rattle.std.proofs.Common.{◌≡◌, ◌∷◌, Option, Ok, IfSome, sym, ◌∙◌, ap}
use Rattle.std.specs.Prelude.{is_some}
use Rattle.std.specs.Option.{option_to_list}
use Rattle.cfg_world.specs.declared.ask.Question.TheVariants.{Now, Jitter}
use Rattle.cfg_world.specs.Fits.{Pair}
use Rattle.cfg_world.specs.Leaves.{moment_of}
use Rattle.cfg_imds.specs.Tokens.{in_ok}
use Rattle.cfg_kept.specs.RoleDocuments.{ReceiptedRole, bare_role, IsRoleDocument}
use Rattle.cfg_kept.specs.Retrieved.{ReceiptedKeys, is_due, needs_jitter, keys_at, retrieved_keys, IsRetrieved}

pub is_retrieved : (d : ReceiptedRole) (reading : Pair) (jitter : Option Pair) (r : ReceiptedKeys) → IsRoleDocument d → reading.0 ≡ Now → IfSome jitter (λ e. e.0 ≡ Jitter) →
    is_some jitter ≡ is_due d.expiry (moment_of reading.1) → r.keys ≡ keys_at reading jitter (bare_role d) → r.receipts ≡ d.get ∷ reading ∷ option_to_list jitter → IsRetrieved r
unfolding retrieved_keys
is_retrieved d reading jitter r document reads asks due keys receipts = record {
  get = d.get;
  reading = reading;
  jitter = jitter;
  receipts = receipts;
  gets = document.gets;
  success = document.success;
  reads = reads;
  asks = asks;
  due = due ∙ ap (λ x. needs_jitter x (moment_of reading.1)) (sym document.reads);
  gives = ap (in_ok (keys_at reading jitter)) document.reads ∙ ap Ok (sym keys);
}
