-- The texts that are found in a written object.
use Rattle.std.proofs.Common.{◌≡◌, ℕ, List, [], ◌∷◌, ◌++◌, map, Bool, true, false, cond, Option, Some, None, refl, sym, ap, ◌∙◌}
use Rattle.std.specs.Prelude.{◌||◌}
use Rattle.std.specs.List.{list_any}
use Rattle.std.specs.Option.{option_or}
use Rattle.std.specs.Str.{all_scalars}
use Rattle.cfg_base.specs.Text.{characters}
use Rattle.cfg_types.specs.Field.{field_name}
use Rattle.cfg_types.specs.declared.document.Field.{Field}
use Rattle.cfg_json.specs.declared.member.Member.{Member}
use Rattle.cfg_json.specs.declared.member.MemberValue.{MemberValue}
use Rattle.cfg_json.specs.declared.member.MemberValue.TheVariants as value
use Rattle.cfg_json.specs.Lookups.{last_given, text_in}
use Rattle.cfg_json.specs.WrittenObjects.{WrittenObject, ToldMember, Tale, members_text, HasScalars, Nests, told_value, told_member, told}
use Rattle.cfg_token.specs.SsoText.{with_text_if_there, HasScalarsIfThere}
use Rattle.cfg_token.specs.SsoFile.{is_named}
use Rattle.cfg_login_token.specs.Access.{place_in, place_under, last_place, has_object, holds_object}

-- ---- the last text whose key passes a test

abbrev pub Named : Type 0
Named = List ℕ → Bool

abbrev pub text_given : Named → Member → Option (List ℕ)
text_given named m = cond (named m.key) (text_in m.value) None

abbrev told_in : ToldMember → Option (List ℕ)
told_in (ToldMember.a_text text) = Some text
told_in ToldMember.an_object = None
told_in ToldMember.another = None

abbrev told_text : Named → Tale → Option (List ℕ)
told_text named tale = cond (named tale.0) (told_in tale.1) None

abbrev pub last_told : Named → List Tale → Option (List ℕ)
last_told named [] = None
last_told named (tale ∷ tales) = option_or (last_told named tales) (told_text named tale)

told_as_it_is : (v : MemberValue) → text_in v ≡ told_in (told_value v)
told_as_it_is (value.Text text) = refl
told_as_it_is (value.Number text) = refl
told_as_it_is (value.Object from to) = refl
told_as_it_is (value.Array has) = refl
told_as_it_is value.Other = refl

pub told_of : (named : Named) (ms : List Member) → last_given (text_given named) ms ≡ last_told named (map told_member ms)
told_of named [] = refl
told_of named (m ∷ ms) =
    ap (λ (o : Option (List ℕ)). option_or o (text_given named m)) (told_of named ms)
    ∙ ap (λ (o : Option (List ℕ)). option_or (last_told named (map told_member ms)) (cond (named m.key) o None)) (told_as_it_is m.value)

pub or_none : {A : Type 0} (o : Option A) → option_or o None ≡ o
or_none None = refl
or_none (Some x) = refl

or_assoc : {A : Type 0} (a b c : Option A) → option_or (option_or a b) c ≡ option_or a (option_or b c)
or_assoc None b c = refl
or_assoc (Some x) b c = refl

told_push : (named : Named) (tales : List Tale) (tale : Tale) → last_told named (tales ++ tale ∷ []) ≡ option_or (told_text named tale) (last_told named tales)
told_push named [] tale = sym (or_none (told_text named tale))
told_push named (x ∷ tales) tale = ap (λ (o : Option (List ℕ)). option_or o (told_text named x)) (told_push named tales tale) ∙ or_assoc (told_text named tale) (last_told named tales) (told_text named x)

-- ---- an object with the texts of fields

abbrev pub with_field : Field → Option (List ℕ) → WrittenObject → WrittenObject
with_field g None w = w
with_field g (Some text) w = WrittenObject.with_text w (characters (field_name g)) text

abbrev pub found_under : Named → Field → Option (List ℕ) → Option (List ℕ)
found_under named g o = cond (named (characters (field_name g))) o None

pub told_with : (named : Named) (g : Field) (o : Option (List ℕ)) (w : WrittenObject) → last_told named (told (with_field g o w)) ≡ option_or (found_under named g o) (last_told named (told w))
told_with named g None w = nothing (named (characters (field_name g)))
  where
    nothing : (b : Bool) → last_told named (told w) ≡ option_or (let none : Option (List ℕ) = None in cond b none None) (last_told named (told w))
    nothing true = refl
    nothing false = refl
told_with named g (Some text) w = told_push named (told w) (characters (field_name g), ToldMember.a_text text)

pub text_with : (g : Field) (o : Option (List ℕ)) (w : WrittenObject) → members_text (with_field g o w) ≡ with_text_if_there g o (members_text w)
text_with g None w = refl
text_with g (Some text) w = refl

pub scalars_with : (g : Field) (o : Option (List ℕ)) (w : WrittenObject) → all_scalars (characters (field_name g)) ≡ true → HasScalarsIfThere o → HasScalars w → HasScalars (with_field g o w)
scalars_with g None w k h s = s
scalars_with g (Some text) w k h s = (s, k, h)

pub nests_with : (g : Field) (o : Option (List ℕ)) (w : WrittenObject) → Nests w 127 → Nests (with_field g o w) 127
nests_with g None w n = n
nests_with g (Some text) w n = n

-- ---- objects in which texts stand alone

abbrev pub IsTold : ToldMember → Type 0
IsTold (ToldMember.a_text text) = Unit {0}
IsTold ToldMember.an_object = ⊥
IsTold ToldMember.another = ⊥

abbrev pub AllTexts : List Tale → Type 0
AllTexts [] = Unit {0}
AllTexts (tale ∷ tales) = IsTold tale.1 × AllTexts tales

pub texts_push : (tales : List Tale) (tale : Tale) → AllTexts tales → IsTold tale.1 → AllTexts (tales ++ tale ∷ [])
texts_push [] tale h k = (k, tt)
texts_push (x ∷ tales) tale h k = (h.0, texts_push tales tale h.1 k)

holds_none : (v : MemberValue) → IsTold (told_value v) → has_object v ≡ false
holds_none (value.Text text) h = refl
holds_none (value.Number text) h = absurd h
holds_none (value.Object from to) h = absurd h
holds_none (value.Array has) h = absurd h
holds_none value.Other h = absurd h

pub no_object : (ms : List Member) → AllTexts (map told_member ms) → list_any holds_object ms ≡ false
no_object [] h = refl
no_object (m ∷ ms) h = ap (λ (b : Bool). b || list_any holds_object ms) (holds_none m.value h.0) ∙ no_object ms h.1

placed_none : (b : Bool) (v : MemberValue) → IsTold (told_value v) → cond b (place_in v) None ≡ None
placed_none true (value.Text text) h = refl
placed_none false (value.Text text) h = refl
placed_none b (value.Number text) h = absurd h
placed_none b (value.Object from to) h = absurd h
placed_none b (value.Array has) h = absurd h
placed_none b value.Other h = absurd h

pub no_place : (name : List ℕ) (ms : List Member) → AllTexts (map told_member ms) → last_place name ms ≡ None
no_place name [] h = refl
no_place name (m ∷ ms) h = ap (λ o. option_or o (place_under name m)) (no_place name ms h.1) ∙ placed_none (is_named name m.key) m.value h.0
