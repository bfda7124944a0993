-- The call's own clauses.
use Rattle.cfg_sharing.proofs.share.call.Goals as goal

pub returns : goal.returns
returns g c = record {
  provides = c.provide_credentials_shared-answered.ensures.provides;
  stays = c.provide_credentials_shared-answered.ensures.stays;
}
