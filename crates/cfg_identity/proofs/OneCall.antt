-- Calls under a name over one script of devices tell the same, where what is held and kept before them is alike.
use Rattle.std.proofs.Common.{◌≡◌, true, false, List, ◌∷◌, Option, Some, None, Ok, Err, sym, ap, subst, ◌∙◌, inl, inr}
use Rattle.std.specs.Prelude.{◌⊎◌, ◌+ℤ◌, ℤ, int_lt, Bool, if◌then◌else◌}
use Rattle.cfg_base.specs.Instant.{number, nanos_in}
use Rattle.cfg_base.specs.Moment.{Moment}
use Rattle.cfg_types.specs.Keys.{Keys}
use Rattle.cfg_world.specs.declared.script.DeviceLists.{DeviceLists}
use Rattle.cfg_world.specs.Fits.{Pair}
use Rattle.cfg_world.specs.Leaves.{moment_of}
use Rattle.cfg_world.specs.Script.{Place, Given, answer_at, place_after}
use Rattle.cfg_world.proofs.Agreeing.{same_entry}
use Rattle.cfg_kept.specs.Kinds.{Value}
use Rattle.cfg_providers.specs.CustomSources.{Answer}
use Rattle.cfg_chain.proofs.Calls.{one_call}
use Rattle.cfg_chain.specs.Provides.{IsCall}
use Rattle.cfg_chain.specs.Settings.{ChainSetting}
use Rattle.cfg_identity.specs.declared.held.Held.{Held}
use Rattle.cfg_identity.specs.declared.settings.CacheSettings.{CacheSettings}
use Rattle.cfg_identity.specs.Cached.{IsHit, IsLoad, IsCached}
use Rattle.cfg_identity.specs.Lives.{IsEnd, IsHeld, has_time_left, lasting}
use Rattle.cfg_identity.specs.NameStates.{NameState}

-- the same credentials are held, to one moment
abbrev pub HeldAlike : Option Held → Option Held → Type 0
HeldAlike None None = Unit {0}
HeldAlike (Some h) (Some k) = (h.credentials ≡ k.credentials) × (number h.life ≡ number k.life)
HeldAlike None (Some k) = ⊥
HeldAlike (Some h) None = ⊥

abbrev given_of : Keys → Answer
given_of keys = Ok keys

pub record StatesAlike (one other : NameState) : Type 0 where
  pub held : HeldAlike one.held other.held
  pub states : one.states ≡ other.states

module _ (settings : CacheSettings) (now : Moment) where
  lasting_alike : (o p : Option Held) → HeldAlike o p → HeldAlike (lasting settings o now) (lasting settings p now)
  lasting_alike None None alike = tt
  lasting_alike None (Some k) alike = absurd alike
  lasting_alike (Some h) None alike = absurd alike
  lasting_alike (Some h) (Some k) alike =
      let same : has_time_left settings h.life now ≡ has_time_left settings k.life now = ap (λ (n : ℤ). int_lt (number now +ℤ nanos_in settings.buffer_seconds) n) alike.1 in
      let both : (b : Bool) → HeldAlike (if b then Some h else None) (if b then Some k else None) = λ b. elim b as (λ b. HeldAlike (if b then Some h else None) (if b then Some k else None)) [ true ↦ alike | false ↦ tt ] in
      subst (λ (b : Bool). HeldAlike (if b then Some h else None) (lasting settings (Some k) now)) (sym same) (both (has_time_left settings k.life now))

  -- what two such lists have that last
  both_last : (o p : Option Held) (r s : Option Held) → HeldAlike o p → lasting settings o now ≡ r → lasting settings p now ≡ s → HeldAlike r s
  both_last o p r s alike e f = subst (λ x. HeldAlike x s) e (subst (λ x. HeldAlike (lasting settings o now) x) f (lasting_alike o p alike))

  ends_alike : (expiry : Option Moment) (a b : Moment) → IsEnd settings expiry now a → IsEnd settings expiry now b → number a ≡ number b
  ends_alike (Some expiry) a b x y = ap (λ (m : Moment). number m) (x ∙ sym y)
  ends_alike None a b x y = x ∙ sym y

  held_alike : (out : Answer) (o p n m : Option Held) → HeldAlike o p → IsHeld settings now out o n → IsHeld settings now out p m → HeldAlike n m
  held_alike (Ok keys) o p n m alike a b =
      subst (λ x. HeldAlike x m) (sym a.3) (subst (λ x. HeldAlike (Some a.0) x) (sym b.3) (a.1 ∙ sym b.1, ends_alike keys.expiry a.0.life b.0.life a.2 b.2))
  held_alike (Err e) o p n m alike a b = subst (λ x. HeldAlike x m) (sym a) (subst (λ x. HeldAlike o x) (sym b) alike)

module _ (settings : CacheSettings) (over : ChainSetting) (lists : DeviceLists) where
  answers_alike : (place : Place) (now : Moment) (old also new later : NameState) (found more : List Value) (rest next : List Pair) (out given : Answer) → StatesAlike old also
      → IsHit settings now old new found rest out ⊎ IsLoad settings over now old new found rest out
      → IsHit settings now also later more next given ⊎ IsLoad settings over now also later more next given
      → Given lists place rest → Given lists place next → ((rest ≡ next) × (out ≡ given)) × StatesAlike new later
  answers_alike place now old also new later found more rest next out given alike (inl a) (inl b) g h =
      let same : HeldAlike (Some a.held) (Some b.held) = both_last settings now old.held also.held (Some a.held) (Some b.held) alike.held a.lasts b.lasts in (
        (a.asks ∙ sym b.asks, a.answers ∙ ap given_of same.0 ∙ sym b.answers),
        subst (λ s. StatesAlike s later) (sym a.same) (subst (λ s. StatesAlike old s) (sym b.same) alike),
      )
  answers_alike place now old also new later found more rest next out given alike (inl a) (inr b) g h =
      absurd (both_last settings now old.held also.held (Some a.held) None alike.held a.lasts b.due)
  answers_alike place now old also new later found more rest next out given alike (inr a) (inl b) g h =
      absurd (both_last settings now old.held also.held None (Some b.held) alike.held a.due b.lasts)
  answers_alike place now old also new later found more rest next out given alike (inr a) (inr b) g h =
      let same = one_call over lists place old.states new.states later.states found more rest next out given a.call (subst (λ k. IsCall over k later.states more next given) (sym alike.states) b.call) g h in (
        (same.0, same.2),
        record {
          held = held_alike settings now given old.held also.held new.held later.held alike.held (subst (λ (o : Answer). IsHeld settings now o old.held new.held) same.2 a.holds) b.holds;
          states = same.3;
        },
      )

  -- two such calls
  pub one_cached : (place : Place) (old also new later : NameState) (found more : List Value) (part next : List Pair) (out given : Answer) → StatesAlike old also
      → IsCached settings over old new found part out → IsCached settings over also later more next given
      → Given lists place part → Given lists place next → ((part ≡ next) × (out ≡ given)) × StatesAlike new later
  one_cached place old also new later found more part next out given alike a b g h =
      let first : Given lists place (a.reading ∷ a.rest) = subst (λ p. Given lists place p) a.asks g in
      let second : Given lists place (b.reading ∷ b.rest) = subst (λ p. Given lists place p) b.asks h in
      let question : a.reading.0 ≡ b.reading.0 = a.reads ∙ sym b.reads in
      let same : a.reading ≡ b.reading = same_entry a.reading b.reading question (first.0 ∙ ap (answer_at lists place) question ∙ sym second.0) in
      let rest = answers_alike (place_after lists place a.reading.0) (moment_of a.reading.1) old also new later found more a.rest b.rest out given alike a.answers
      (subst (λ (e : Pair). IsHit settings (moment_of e.1) also later more b.rest given ⊎ IsLoad settings over (moment_of e.1) also later more b.rest given) (sym same) b.answers)
      first.1 (subst (λ (e : Pair). Given lists (place_after lists place e.0) b.rest) (sym same) second.1) in
      ((a.asks ∙ ap (λ (e : Pair). e ∷ a.rest) same ∙ ap (λ (t : List Pair). b.reading ∷ t) rest.0.0 ∙ sym b.asks, rest.0.1), rest.1)
