-- A call that was answered is a beginning of it, too: its whole part.
use Rattle.std.proofs.Common.{List, Some, ap, subst}
use Rattle.cfg_world.specs.declared.devices.Devices.{Ghosts}
use Rattle.cfg_world.specs.Held.{Held}
use Rattle.cfg_kept.specs.Kinds.{Value, States}
use Rattle.cfg_kept.specs.KeptInquiry.{Reads}
use Rattle.cfg_kept.proofs.Told.{told_back, run_begins}
use Rattle.cfg_providers.specs.CustomSources.{Answer}
use Rattle.cfg_chain.specs.Settings.{ChainSetting, setting}
use Rattle.cfg_chain.specs.Members.{default_chain}
use Rattle.cfg_chain.specs.Provides.{Provides, ProvidesBeginning}
use Rattle.cfg_chain.proofs.MemberCauses.{reads_resolved}

pub call_begins : {D : Type 0} (d : Ghosts D) (over : ChainSetting) (old new : States) (found : List Value) (before later : Held D) (out : Answer) →
    Provides d over old new found before later out → ProvidesBeginning d over old new found before later
call_begins d over old new found before later out p =
    let s = setting over p.call.services in
    let reads = subst (λ f. Reads (default_chain s) f p.part out) p.call.finds (reads_resolved s found p.part out p.call.resolves) in
    let runs = told_back (default_chain s) old (Some new) found p.part out (p.call.finds, ap Some p.call.keeps, reads) in
    record {
      services = p.call.services;
      names = p.call.names;
      part = p.part;
      stays = record { journal = p.grows.journal; fits = p.grows.fits; same = p.grows.same; counted = p.grows.counted };
      begins = run_begins (default_chain s) (Some old) (Some new) found p.part out runs;
    }
