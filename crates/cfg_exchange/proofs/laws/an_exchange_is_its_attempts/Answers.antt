use Rattle.std.proofs.Common.{add-one}
use Rattle.cfg_exchange.proofs.Pieces.{attempts_piece, piece_attempts}
use Rattle.cfg_exchange.proofs.laws.an_exchange_is_its_attempts.Goals as goal

pub returns : goal.returns
returns c = λ more q repeats part last. rw add-one (attempts_piece more q repeats part last, piece_attempts more q repeats part last)
