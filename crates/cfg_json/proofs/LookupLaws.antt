-- What the last member of a name gives, by the place where it stands.
use Rattle.std.specs.Option.{option_or}
use Rattle.std.specs.List.{All}
use Rattle.std.proofs.Common.{◌≡◌, ◌↔◌, List, [], ◌∷◌, ◌++◌, ◌⊎◌, Option, Some, None, inl, inr, refl, sym, ap, ◌∙◌, subst}
use Rattle.std.proofs.lemmas.List.Elements.{All-nil, All-cons, All-head, All-tail}
use Rattle.cfg_json.specs.declared.member.Member.{Member}
use Rattle.cfg_json.specs.Lookups.{last_given, GivesNothing, IsLastGiven}

none_given : {A : Type 0} (give : Member → Option A) (ms : List Member) → All (GivesNothing give) ms → last_given give ms ≡ None
none_given give [] h = refl
none_given give (m ∷ ms) h =
    ap (λ o. option_or o (give m)) (none_given give ms (All-tail (GivesNothing give) m ms h)) ∙ All-head (GivesNothing give) m ms h

last_counts : {A : Type 0} (give : Member → Option A) (given : A) (m : Member) (before behind : List Member) → give m ≡ Some given → All (GivesNothing give) behind →
    last_given give (before ++ m ∷ behind) ≡ Some given
last_counts give given m [] behind is h = ap (λ o. option_or o (give m)) (none_given give behind h) ∙ is
last_counts give given m (p ∷ before) behind is h = ap (λ o. option_or o (give p)) (last_counts give given m before behind is h)

-- what a look-up came to: what the last member gives that gives something, or nothing
abbrev Judged : {A : Type 0} → (Member → Option A) → List Member → Type 0
Judged give ms = ((given : _) × (last_given give ms ≡ Some given) × IsLastGiven give ms given) ⊎ (All (GivesNothing give) ms × (last_given give ms ≡ None))

judged_first : {A : Type 0} (give : Member → Option A) (m : Member) (ms : List Member) (o : Option A) → give m ≡ o → Judged give ms → Judged give (m ∷ ms)
judged_first give m ms o is (inl l) =
    let last = l.2 in
    inl (l.0, ap (λ f. option_or f (give m)) l.1, record { before = m ∷ last.before; last = last.last; behind = last.behind; stands = ap (λ t. m ∷ t) last.stands; gives = last.gives; others = last.others })
judged_first give m ms (Some given) is (inr r) =
    inl (given, ap (λ f. option_or f (give m)) r.1 ∙ is, record { before = []; last = m; behind = ms; stands = refl; gives = is; others = r.0 })
judged_first give m ms None is (inr r) = inr (All-cons (GivesNothing give) m ms is r.0, ap (λ f. option_or f (give m)) r.1 ∙ is)

judged : {A : Type 0} (give : Member → Option A) (ms : List Member) → Judged give ms
judged give [] = inr (All-nil (GivesNothing give), refl)
judged give (m ∷ ms) = judged_first give m ms (give m) refl (judged give ms)

some_is : {A : Type 0} (give : Member → Option A) (ms : List Member) (given : A) → Judged give ms → last_given give ms ≡ Some given → IsLastGiven give ms given
some_is give ms given (inl l) h = let same : l.0 ≡ given = cc in subst (λ x. IsLastGiven give ms x) same l.2
some_is give ms given (inr r) h = let no : Some given ≡ None = sym h ∙ r.1 in cc

none_is : {A : Type 0} (give : Member → Option A) (ms : List Member) → Judged give ms → last_given give ms ≡ None → All (GivesNothing give) ms
none_is give ms (inl l) h = let no : Some l.0 ≡ None = sym l.1 ∙ h in cc
none_is give ms (inr r) h = r.0

pub last_is_given : {A : Type 0} (give : Member → Option A) (ms : List Member) (given : A) → (last_given give ms ≡ Some given) ↔ IsLastGiven give ms given
last_is_given give ms given = (
  some_is give ms given (judged give ms),
  λ l. subst (λ ms. last_given give ms ≡ Some given) (sym l.stands) (last_counts give given l.last l.before l.behind l.gives l.others),
)

pub nothing_is_given : {A : Type 0} (give : Member → Option A) (ms : List Member) → (last_given give ms ≡ None) ↔ All (GivesNothing give) ms
nothing_is_given give ms = (none_is give ms (judged give ms), none_given give ms)
