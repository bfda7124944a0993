use Rattle.cfg_exchange.proofs.Unset.{passed_over, unset_passed}
use Rattle.cfg_exchange.proofs.laws.a_container_is_passed_over_where_no_address_is_set.Goals as goal

pub returns : goal.returns
returns c = λ env settings place part out names reads.
    (passed_over env settings place part out names reads, unset_passed env settings place part out names reads)
