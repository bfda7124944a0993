-- What the generated devices answer fits.
use Rattle.std.proofs.Common.{ℕ, zero, suc, ◌-◌, [], ◌∷◌}
use Rattle.std.proofs.lemmas.List.Elements.{All-append, All-nil, All-from_recursion}
use Rattle.std.specs.Prelude.{All}
use Rattle.cfg_world.specs.Script.{AllFit, IsSentAs, IsSts}
use Rattle.cfg_program.specs.Generated.{generated_reply, generated_replies, generated_lists}

replies_fit : (n : ℕ) → All (IsSentAs IsSts) (generated_replies n)
replies_fit zero = All-nil (IsSentAs IsSts)
replies_fit (suc j) = All-append (IsSentAs IsSts) (generated_replies j) (generated_reply (suc j) ∷ []) (replies_fit j) (All-from_recursion (IsSentAs IsSts) (generated_reply (suc j) ∷ []) (tt, tt))

pub lists_fit : (n : ℕ) → AllFit (generated_lists n)
lists_fit n = record {
  clock = All-nil _;
  commands = All-nil _;
  lookups = All-nil _;
  http = All-nil _;
  imds_token = All-nil _;
  imds_get = All-nil _;
  assume_role = replies_fit (n - 1);
  web_identity = All-nil _;
  role_credentials = All-nil _;
  create_token = All-nil _;
  sign_in = All-nil _;
}
