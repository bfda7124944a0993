-- Trees that never look at some spots.
use Rattle.std.proofs.Common.{◌≡◌, List, [], ◌∷◌, ◌++◌, Bool, false, Option, Result, Ok, Err, sym, subst, inl, inr}
use Rattle.cfg_types.specs.Environment.{Variables}
use Rattle.cfg_types.specs.declared.settings.CallSettings.{CallSettings}
use Rattle.cfg_world.specs.declared.ask.Answer.{Answer as Given}
use Rattle.cfg_world.specs.Fits.{Pair}
use Rattle.cfg_world.specs.Inquiry.{Inquiry, Done, Ask}
use Rattle.cfg_token.specs.declared.token_key.TokenKey.{TokenKey}
use Rattle.cfg_token.specs.Rules.{Rules}
use Rattle.cfg_kept.specs.Kinds.{Spot, Value, States}
use Rattle.cfg_kept.specs.KeptInquiry.{KeptInquiry, Gives, Puts, Finds, Leaves, Begins, leave, lift, onwards, onwards_if_ok}
use Rattle.cfg_kept.specs.Holds.{left_by, holding}
use Rattle.cfg_kept.specs.SectionHoldings.{TokenSpot, kept_section, section_holding}
use Rattle.cfg_login.specs.FoundSessions.{is_session_spot, ReadsNoSession}

module _ (is_one : Spot → Bool) where
  -- What the tree finds is kept elsewhere, whatever is answered and found.
  abbrev pub NeverFinds : {R : Type 0} → KeptInquiry R → Type 0
  NeverFinds (Gives r) = Unit {0}
  NeverFinds (Puts q next) = (a : Given) → NeverFinds (next a)
  NeverFinds (Finds spot next) = (is_one spot ≡ false) × ((v : Value) → NeverFinds (next v))
  NeverFinds (Leaves v rest) = NeverFinds rest

  -- ---- how such trees are put together

  pub lift_elsewhere : {R : Type 0} (p : Inquiry R) → NeverFinds (lift p)
  lift_elsewhere (Done r) = tt
  lift_elsewhere (Ask q next) = λ a. lift_elsewhere (next a)

  pub onwards_elsewhere : {A B : Type 0} (p : KeptInquiry A) (f : A → KeptInquiry B) → NeverFinds p → ((x : A) → NeverFinds (f x)) → NeverFinds (onwards p f)
  onwards_elsewhere (Gives x) f n m = m x
  onwards_elsewhere (Puts q next) f n m = λ a. onwards_elsewhere (next a) f (n a) m
  onwards_elsewhere (Finds spot next) f n m = (n.0, λ v. onwards_elsewhere (next v) f (n.1 v) m)
  onwards_elsewhere (Leaves v p) f n m = onwards_elsewhere p f n m

  pub if_ok_elsewhere : {A B E : Type 0} (f : A → KeptInquiry (Result B E)) (r : Result A E) → ((x : A) → NeverFinds (f x)) → NeverFinds (onwards_if_ok f r)
  if_ok_elsewhere f (Ok x) m = m x
  if_ok_elsewhere f (Err e) m = tt

  pub bound_elsewhere : {A B E : Type 0} (p : KeptInquiry (Result A E)) (f : A → KeptInquiry (Result B E)) → NeverFinds p → ((x : A) → NeverFinds (f x)) → NeverFinds (onwards p (onwards_if_ok f))
  bound_elsewhere p f n m = onwards_elsewhere p (onwards_if_ok f) n (λ r. if_ok_elsewhere f r m)

  -- a holding of another spot
  pub holding_elsewhere : {R T : Type 0} (spot : Spot) (at : T → Value) (asks : Value → Inquiry (R × T)) → is_one spot ≡ false → NeverFinds (holding spot at asks)
  unfolding holding
  holding_elsewhere spot at asks other = (other, λ v. onwards_elsewhere (lift (asks v)) (left_by at) (lift_elsewhere (asks v)) (λ made. tt))

  pub section_elsewhere : {T E : Type 0} (t : Rules T E) (s : TokenSpot T) (key : TokenKey) (env : Variables) (settings : CallSettings) → is_one s.spot ≡ false → NeverFinds (section_holding t s key env settings)
  unfolding section_holding
  section_elsewhere t s key env settings other = holding_elsewhere s.spot s.at (λ found. kept_section t key env settings (s.token_in found)) other

-- ---- what such a tree has found

pub begins_elsewhere : {R : Type 0} (p : KeptInquiry R) (old new : Option States) (found : List Value) (part : List Pair) → NeverFinds is_session_spot p → Begins p old found part new → ReadsNoSession found
begins_elsewhere (Gives r) old new [] part n h = tt
begins_elsewhere (Gives r) old new (f ∷ found) part n h = absurd h
begins_elsewhere (Puts q next) old new [] [] n h = tt
begins_elsewhere (Puts q next) old new (f ∷ found) [] n h = absurd h
begins_elsewhere (Puts q next) old new found (e ∷ part) n h = begins_elsewhere (next e.1) old new found part (n e.1) h.1
begins_elsewhere (Finds spot next) old new [] part n h = tt
begins_elsewhere (Finds spot next) old new (f ∷ found) part n h =
    (subst (λ x. is_session_spot x ≡ false) (sym h.0) n.0, begins_elsewhere (next f) old new found part (n.1 f) h.2)
begins_elsewhere (Leaves v p) old new found part n (inl h) = subst ReadsNoSession (sym h.0) tt
begins_elsewhere (Leaves v p) old new found part n (inr h) = begins_elsewhere p (leave old v) new found part n h

-- one list of found values, and another behind it
pub none_found : (one other : List Value) → ReadsNoSession one → ReadsNoSession other → ReadsNoSession (one ++ other)
none_found [] other h k = k
none_found (v ∷ one) other h k = (h.0, none_found one other h.1 k)
