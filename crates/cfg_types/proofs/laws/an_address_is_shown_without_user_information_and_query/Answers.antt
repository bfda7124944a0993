use Rattle.std.proofs.Common.{◌≡◌, ℕ, List, ◌∷◌, [], ◌++◌, append_assoc, ap, ◌∙◌}
use Rattle.cfg_types.specs.Addresses.{shown_address}
use Rattle.cfg_types.proofs.Cuts.{hidden-user}
use Rattle.cfg_types.proofs.laws.an_address_is_shown_without_user_information_and_query.Goals as goal

one_behind : (user host query : List ℕ) → (((user ++ 64 ∷ []) ++ host) ++ 63 ∷ []) ++ query ≡ user ++ 64 ∷ (host ++ 63 ∷ query)
one_behind user host query = simp append_assoc

pub returns : goal.returns
returns c = λ user host query u h at more. ap shown_address (one_behind user host query) ∙ hidden-user user host query u h at more
