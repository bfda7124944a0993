-- What the parts of calls say of their trees.
use Rattle.std.proofs.Common.{◌≡◌, List, [], ◌∷◌, ◌++◌, Option, None, Result, refl, sym, ap, ◌∙◌, subst, append-nil, inl, inr}
use Rattle.cfg_types.specs.Environment.{Variables}
use Rattle.cfg_types.specs.declared.settings.CallSettings.{CallSettings}
use Rattle.cfg_world.specs.Fits.{Pair}
use Rattle.cfg_world.specs.Inquiry as low
use Rattle.cfg_world.specs.Inquiry.{Inquiry, Done, Ask, after}
use Rattle.cfg_token.specs.declared.token_key.TokenKey.{TokenKey}
use Rattle.cfg_token.specs.Rules.{Rules}
use Rattle.cfg_token.specs.Sections.{section, answer_of}
use Rattle.cfg_kept.specs.Kinds.{Spot, Value, States, spot_of}
use Rattle.cfg_kept.specs.KeptInquiry.{KeptInquiry, Gives, Puts, Finds, Leaves, Runs, Begins, Reads, leave, lift, onwards}
use Rattle.cfg_kept.specs.Holds.{left_by, holding}
use Rattle.cfg_kept.specs.SectionHoldings.{TokenSpot, section_leaves, kept_section, section_holding}
use Rattle.cfg_kept.specs.SectionParts.{IsSectionPart}
use Rattle.cfg_kept.proofs.Splits.{split_onwards, lowered}

given_alone : {R : Type 0} (r : R) (found : List Value) (part : List Pair) (out : R) → Reads (Gives r) found part out → (found ≡ []) × (part ≡ []) × (r ≡ out)
given_alone r [] [] out h = (refl, refl, h.0)
given_alone r [] (e ∷ part) out h = absurd h
given_alone r (f ∷ found) part out h = absurd h

left_alone : {R T : Type 0} (at : T → Value) (made : R × T) (found : List Value) (part : List Pair) (out : R) → Reads (left_by at made) found part out → (found ≡ []) × (part ≡ []) × (made.0 ≡ out)
left_alone at made [] [] out h = (refl, refl, h.0)
left_alone at made [] (e ∷ part) out h = absurd h
left_alone at made (f ∷ found) part out h = absurd h

-- a tree, and a reading of its outcome
pub given_then : {A B : Type 0} (p : KeptInquiry A) (g : A → B) (found : List Value) (part : List Pair) (out : B) → Reads (onwards p (λ x. Gives (g x))) found part out → (x : A) × Reads p found part x × (out ≡ g x)
given_then p g found part out h =
    let s = split_onwards p (λ x. Gives (g x)) found part out h in
    let a = given_alone (g s.middle) s.found_then s.rest out s.then in (
      s.middle,
      subst (λ f. Reads p f part s.middle) (sym (s.finds ∙ ap (λ t. s.found_first ++ t) a.0 ∙ append-nil s.found_first))
          (subst (λ J. Reads p s.found_first J s.middle) (sym (s.parts ∙ ap (λ t. s.part ++ t) a.1 ∙ append-nil s.part)) s.first),
      sym a.2,
    )

asked_then : {A B : Type 0} (p : Inquiry A) (g : A → B) (part : List Pair) (out : B) → low.Reads (after p (λ x. Done (g x))) part out → (x : A) × low.Reads p part x × (g x ≡ out)
asked_then (Done x) g [] out h = (x, refl, h)
asked_then (Done x) g (e ∷ part) out h = absurd h
asked_then (Ask q n) g [] out h = absurd h
asked_then (Ask q n) g (e ∷ part) out h = let r = asked_then (n e.1) g part out h.1 in (r.0, (h.0, r.1), r.2)

-- the part of one holding
record HoldingPart {R T : Type 0} (spot : Spot) (asks : Value → Inquiry (R × T)) (found : List Value) (part : List Pair) (out : R) : Type 0 where
  value : Value
  at_spot : spot_of value ≡ spot
  finds : found ≡ value ∷ []
  left : T
  reads : low.Reads (asks value) part (out, left)

holding_part : {R T : Type 0} (spot : Spot) (at : T → Value) (asks : Value → Inquiry (R × T)) (found : List Value) (part : List Pair) (out : R) → Reads (holding spot at asks) found part out → HoldingPart spot asks found part out
unfolding holding
holding_part spot at asks [] part out h = absurd h
holding_part spot at asks (f ∷ found) part out h =
    let s = split_onwards (lift (asks f)) (left_by at) found part out h.2 in
    let l = lowered (asks f) s.found_first s.part s.middle s.first in
    let a = left_alone at s.middle s.found_then s.rest out s.then in
    record {
      value = f;
      at_spot = h.0;
      finds = ap (λ t. f ∷ t) (s.finds ∙ ap (λ t. t ++ s.found_then) l.0 ∙ a.0);
      left = s.middle.1;
      reads = subst (λ J. low.Reads (asks f) J (out, s.middle.1)) (sym (s.parts ∙ ap (λ t. s.part ++ t) a.1 ∙ append-nil s.part))
          (subst (λ o. low.Reads (asks f) s.part (o, s.middle.1)) a.2 l.1);
    }

-- what is kept decides nothing of what a run reads
pub read_of_run : {R : Type 0} (p : KeptInquiry R) (old new : Option States) (found : List Value) (part : List Pair) (out : R) → Runs p old found part out new → Reads p found part out
read_of_run (Gives r) old new [] [] out h = (h.0, refl)
read_of_run (Gives r) old new [] (e ∷ part) out h = absurd h
read_of_run (Gives r) old new (f ∷ found) part out h = absurd h
read_of_run (Puts q n) old new found [] out h = absurd h
read_of_run (Puts q n) old new found (e ∷ part) out h = (h.0, read_of_run (n e.1) old new found part out h.1)
read_of_run (Finds spot n) old new [] part out h = absurd h
read_of_run (Finds spot n) old new (f ∷ found) part out h = (h.0, tt, read_of_run (n f) old new found part out h.2)
read_of_run (Leaves v p) old new found part out h = read_of_run p (leave old v) new found part out h

-- nor of how a run begins
pub begun_untold : {R : Type 0} (p : KeptInquiry R) (old new : Option States) (found : List Value) (part : List Pair) → Begins p old found part new → Begins p None found part None
begun_untold (Gives r) old new [] [] h = refl
begun_untold (Gives r) old new [] (e ∷ part) h = absurd h
begun_untold (Gives r) old new (f ∷ found) part h = absurd h
begun_untold (Puts q n) old new [] [] h = refl
begun_untold (Puts q n) old new (f ∷ found) [] h = absurd h
begun_untold (Puts q n) old new found (e ∷ part) h = (h.0, begun_untold (n e.1) old new found part h.1)
begun_untold (Finds spot n) old new [] [] h = refl
begun_untold (Finds spot n) old new [] (e ∷ part) h = absurd h
begun_untold (Finds spot n) old new (f ∷ found) part h = (h.0, tt, begun_untold (n f) old new found part h.2)
begun_untold (Leaves v p) old new found part (inl h) = inl (h.0, h.1, refl)
begun_untold (Leaves v p) old new found part (inr h) = inr (begun_untold p (leave old v) new found part h)

-- the part of a section of the token that is kept there
pub section_part : {T E : Type 0} (t : Rules T E) (s : TokenSpot T) (key : TokenKey) (env : Variables) (settings : CallSettings) (found : List Value) (part : List Pair) (given : Result T E) →
    Reads (section_holding t s key env settings) found part given → IsSectionPart t s key env settings found part given
unfolding section_holding
section_part t s key env settings found part given h =
    let p = holding_part s.spot s.at (λ f. kept_section t key env settings (s.token_in f)) found part given h in
    let was = s.token_in p.value in
    let a = asked_then (section t key env settings was.token was.last) (λ made. (answer_of made, section_leaves was made)) part (given, p.left) p.reads in
    record { value = p.value; spot = p.at_spot; finds = p.finds; made = a.0; reads = a.1; gives = sym (ap (λ r. r.0) a.2) }
