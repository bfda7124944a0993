-- A section hands out the kept token by the first reading alone.
use Rattle.std.proofs.Common.{◌≡◌, true, false, List, [], Option, Some, None, refl, sym, ◌∙◌, subst}
use Rattle.cfg_base.specs.Instant.{is_later_by}
use Rattle.cfg_base.specs.Moment.{Moment}
use Rattle.cfg_types.specs.Environment.{Variables}
use Rattle.cfg_types.specs.declared.settings.CallSettings.{CallSettings}
use Rattle.cfg_world.specs.declared.ask.Question.TheVariants as question
use Rattle.cfg_world.specs.Fits.{Pair}
use Rattle.cfg_world.specs.Leaves.{moment_of}
use Rattle.cfg_token.specs.declared.token_key.TokenKey.{TokenKey}
use Rattle.cfg_token.specs.declared.loading.Loaded.{Loaded}
use Rattle.cfg_token.specs.declared.sections.Sectioned.{Sectioned}
use Rattle.cfg_token.specs.declared.sections.Sectioned.TheVariants.{Hit, Load}
use Rattle.cfg_token.specs.Rules.{Rules}
use Rattle.cfg_token.specs.SectionRows
use Rattle.cfg_token.specs.SectionRows.{IsUsedUp, SectionRow}
use Rattle.cfg_token.specs.KeptUses.{UsesKept}

module _ {T E : Type 0} (t : Rules T E) where
  hit_token : (a b : T) → (let s : Sectioned T E = Hit a in s) ≡ Hit b → a ≡ b
  hit_token a b h = cc

  kept_token : (kept : Option T) (a b : T) → kept ≡ Some a → kept ≡ Some b → a ≡ b
  kept_token kept a b h k = cc

  no_hit : (l : Loaded T E) (token : T) → (let s : Sectioned T E = Load l in s) ≡ Hit token → ⊥
  no_hit l token h = cc

  not_both : false ≡ true → ⊥
  not_both h = cc

  used_up : (kept : Option T) (token : T) (now : Moment) → IsUsedUp t kept now → kept ≡ Some token → is_later_by (t.expiry token) now 300 ≡ true → ⊥
  used_up None token now due k long = cc
  used_up (Some other) token now due k long =
      not_both (sym due ∙ subst (λ (x : T). is_later_by (t.expiry x) now 300 ≡ true) (kept_token (Some other) token other k refl) long)

  pub kept_is_used : (key : TokenKey) (env : Variables) (settings : CallSettings) (kept : Option T) (last : Option Moment) (part : List Pair) (made : Sectioned T E) →
      SectionRow t key env settings kept last part made → UsesKept t kept part made
  kept_is_used key env settings kept last part made (SectionRows.hit {token = token} {clock = now} k long) = record {
    first = (question.Now, now);
    rest = [];
    parts = refl;
    asks = refl;
    hit = λ other. (
      λ h. let same : token ≡ other = hit_token token other h in
          (subst (λ (x : T). kept ≡ Some x) same k, subst (λ (x : T). is_later_by (t.expiry x) (moment_of now) 300 ≡ true) same long),
      λ h. subst (λ (x : T). (let s : Sectioned T E = Hit token in s) ≡ Hit x) (kept_token kept token other k h.0) refl,
    );
    alone = λ other h. refl;
  }
  kept_is_used key env settings kept last part made (SectionRows.load {clock = now} {part = rest} {loaded = l} due row) = record {
    first = (question.Now, now);
    rest = rest;
    parts = refl;
    asks = refl;
    hit = λ token. (λ h. absurd (no_hit l token h), λ h. absurd (used_up kept token (moment_of now) due h.0 h.1));
    alone = λ token h. absurd (no_hit l token h);
  }
