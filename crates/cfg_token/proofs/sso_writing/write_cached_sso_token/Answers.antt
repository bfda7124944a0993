-- What is written is read back.
use Rattle.cfg_token.proofs.ReadBack.{written_token}
use Rattle.cfg_token.proofs.sso_writing.write_cached_sso_token.Goals as goal

pub returns-clause-read_back : goal.returns-clause-read_back
returns-clause-read_back c =
    written_token c.args.token.now c.in_ok-text.text c.in_ok-text.ensures.texts (record {
      expiry = c.in_ok-expiry.expiry;
      registration = c.in_ok-registration.registration;
      is_expiry = rw c.deref.ensures at c.in_ok-expiry.ensures.answers;
      is_registration = rw c.deref-2.ensures at c.in_ok-registration.ensures.answers;
      is = c.in_ok-text.ensures.is;
    })
