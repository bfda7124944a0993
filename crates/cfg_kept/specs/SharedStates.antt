-- What is kept where callers share it.
use Rattle.std.specs.Prelude.{List, map, Option}
use Rattle.cfg_token.specs.declared.token_key.TokenKey.{TokenKey}
use Rattle.cfg_kept.specs.FoundValues.{bare}
use Rattle.cfg_kept.specs.Kinds.{Value}
use Rattle.cfg_kept.specs.SharedKeys.{key_of_shared}
use Rattle.cfg_kept.specs.declared.shared_kept.SharedKept.{SharedKept}
use Rattle.cfg_kept.specs.declared.shared_pass.SharedPass.{SharedPass}

-- the key of the token, where there is one
abbrev pub shared_key : SharedKept → Option TokenKey
shared_key kept = key_of_shared kept.token

-- the values that a call's pass found, and the key of the token that it holds
abbrev pub pass_found : {R : Type 0} → SharedPass R → List Value
pass_found pass = map bare pass.found.items

abbrev pub pass_key : {R : Type 0} → SharedPass R → Option TokenKey
pass_key pass = shared_key pass.kept.now
