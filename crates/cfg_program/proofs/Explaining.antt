-- A script has one explanation.
use Rattle.std.proofs.Common.{◌≡◌, ℕ, suc, ◌+◌, ◌<◌, ◌≤◌, List, ◌∷◌, ◌++◌, length, drop, get_or, Bool, Option, Some, None, IsSome, refl, sym, ap, ◌∙◌, subst, append-nil, append_assoc, arith}
use Rattle.std.proofs.Math.Seq.{drop-cons}
use Rattle.std.proofs.lemmas.List.{drop_all}
use Rattle.cfg_world.specs.declared.script.DeviceLists.{DeviceLists}
use Rattle.cfg_world.specs.Asked.{Same, StandsOn}
use Rattle.cfg_world.specs.Fits.{Pair}
use Rattle.cfg_world.specs.Script.{Script, Allows, Stands, start}
use Rattle.cfg_kept.specs.declared.kept.Kept.{Kept}
use Rattle.cfg_kept.specs.KeptStates.{states_of}
use Rattle.cfg_kept.specs.Kinds.{Value, States, no_states}
use Rattle.cfg_providers.specs.CustomSources.{Answer, NamedAnswer}
use Rattle.cfg_chain.specs.BegunCalls.{HasEnded}
use Rattle.cfg_chain.specs.Provides.{IsCall}
use Rattle.cfg_chain.specs.Settings.{ChainSetting, with_sources}
use Rattle.cfg_chain.proofs.Calls.{one_call}
use Rattle.cfg_explain.specs.Owners.{AreOwners, OwnsOn}
use Rattle.cfg_explain.proofs.OneOwner.{same_owners}
use Rattle.cfg_script.specs.Script.{Plain}
use Rattle.cfg_script.specs.Devices.{lists_of}
use Rattle.cfg_program.specs.Calls.{configuration_of}
use Rattle.cfg_program.specs.Explained.{entry_line, entry_lines, AreMembers, IsExplained, Explains, ExplainAnswers}
use Rattle.cfg_program.specs.Lines.{shown}
use Rattle.cfg_program.proofs.OneRegion.{given_from_start}

one_explained : (over : ChainSetting) (lists : DeviceLists) (a b : Bool) (lines other : List ℕ) → Explains over lists a lines → Explains over lists b other → (a ≡ b) × (lines ≡ other)
one_explained over lists a b lines other x y =
    let same = one_call over lists start no_states x.call.kept y.call.kept x.call.found y.call.found x.call.journal y.call.journal x.call.out y.call.out x.made y.made x.agrees y.agrees in
    let t = x.told in
    let journal = subst (λ j. IsExplained over j y.call.out b other) (sym same.0) y.told in
    let u = subst (λ (o : Answer). IsExplained over x.call.journal o b other) (sym same.2) journal in
    let members : t.members ≡ u.members = same_owners over no_states x.call.journal t.members u.members t.asked.counted u.asked.counted t.asked.owned u.asked.owned in
    (t.credentials ∙ sym u.credentials, t.shows ∙ ap (λ m. entry_lines 1 x.call.journal m ++ shown x.call.out x.call.journal) members ∙ sym u.shows)

pub one_explanation : (sources : List NamedAnswer) (p : Plain) (a b : Bool) (lines other : List ℕ) → ExplainAnswers sources p a lines → ExplainAnswers sources p b other → (a ≡ b) × (lines ≡ other)
one_explanation sources p a b lines other x y = one_explained (with_sources (configuration_of p) sources) (lists_of p) a b lines other x y

-- a call over this journal has ended
pub has_ended : (over : ChainSetting) (old new : States) (found : List Value) (part told : List Pair) (out : Answer) → old ≡ no_states → IsCall over old new found part out → told ≡ part → HasEnded over no_states told
has_ended over old new found part told out nothing call own =
    (new, found, out, subst (λ j. IsCall over no_states new found j out) (sym own) (subst (λ k. IsCall over k new found part out) nothing call))

-- one call over scripted devices that nothing was asked of, explained
pub explained_over : (over : ChainSetting) (was now : Script) (old new : States) (found : List Value) (part told : List Pair) (out : Answer) (ok : Bool) (lines : List ℕ) → was.place ≡ start
    → Same (Allows was) (Allows now) → StandsOn (Stands was) (Stands now) part → old ≡ no_states → IsCall over old new found part out → told ≡ part → IsExplained over told out ok lines → Explains over was.lists ok lines
explained_over over was now old new found part told out ok lines fresh same stands nothing call own explained = record {
  call = record { found = found; journal = part; out = out; kept = new };
  made = subst (λ k. IsCall over k new found part out) nothing call;
  agrees = given_from_start was now part fresh same stands;
  told = subst (λ j. IsExplained over j out ok lines) own explained;
}

-- the owners of the entries of a call are there, and are its members
pub members_there : (over : ChainSetting) (old new : Kept) (journal : List Pair) (names : Option (List (List ℕ))) → states_of old ≡ no_states → OwnsOn over old new journal names → HasEnded over no_states journal → IsSome names
members_there over old new journal (Some names) nothing owns ended = refl
members_there over old new journal None nothing owns ended = absurd (owns (subst (λ k. HasEnded over k journal) (sym nothing) ended))

pub are_members : (over : ChainSetting) (old new : Kept) (journal : List Pair) (names : Option (List (List ℕ))) (members : List (List ℕ)) → states_of old ≡ no_states → OwnsOn over old new journal names → names ≡ Some members →
    AreMembers over journal members
are_members over old new journal names members nothing owns is =
    let o = subst (OwnsOn over old new journal) is owns in
    record { counted = o.1; owned = subst (λ k. AreOwners over k journal members) nothing o.2 }

-- the lines from a place on are that of the entry there, and those behind it
one_line_more : (journal : List Pair) (members : List (List ℕ)) (place : ℕ) (e : Pair) (m : List ℕ) → place < length journal → place < length members →
    entry_lines (place + 1) (drop place journal) (drop place members) ≡ entry_line (place + 1) (get_or journal place e) (get_or members place m) ++ entry_lines (place + 1 + 1) (drop (place + 1) journal) (drop (place + 1) members)
one_line_more journal members place e m lt lt_too =
    ap (λ j. entry_lines (place + 1) j (drop place members)) (drop-cons journal place e lt)
    ∙ ap (λ ms. entry_lines (place + 1) (get_or journal place e ∷ drop (suc place) journal) ms) (drop-cons members place m lt_too)
    ∙ ap (λ n. entry_line (place + 1) (get_or journal place e) (get_or members place m) ++ entry_lines (place + 1 + 1) (drop n journal) (drop n members)) (sym (more place))
  where
    more : (n : ℕ) → n + 1 ≡ suc n
    more n = omega arith

-- one line more
pub entries_next : (journal : List Pair) (members : List (List ℕ)) (place : ℕ) (e : Pair) (m before now all : List ℕ) → place < length journal → place < length members → e ≡ get_or journal place e → m ≡ get_or members place m
    → before ++ entry_lines (place + 1) (drop place journal) (drop place members) ≡ all → now ≡ before ++ entry_line (place + 1) e m → now ++ entry_lines (place + 1 + 1) (drop (place + 1) journal) (drop (place + 1) members) ≡ all
entries_next journal members place e m before now all lt lt_too is_entry is_member so_far shows =
    let rest = entry_lines (place + 1 + 1) (drop (place + 1) journal) (drop (place + 1) members) in
    ap (λ l. l ++ rest) shows
    ∙ append_assoc before (entry_line (place + 1) e m) rest
    ∙ ap (λ x. before ++ (entry_line (place + 1) x m ++ rest)) is_entry
    ∙ ap (λ x. before ++ (entry_line (place + 1) (get_or journal place e) x ++ rest)) is_member
    ∙ ap (λ l. before ++ l) (sym (one_line_more journal members place e m lt lt_too))
    ∙ so_far

-- behind the last entry there is none
pub entries_done : (journal : List Pair) (members : List (List ℕ)) (place : ℕ) (lines all : List ℕ) → length journal ≤ place → lines ++ entry_lines (place + 1) (drop place journal) (drop place members) ≡ all → lines ≡ all
entries_done journal members place lines all long so_far =
    sym (append-nil lines) ∙ ap (λ j. lines ++ entry_lines (place + 1) j (drop place members)) (sym (drop_all place journal long)) ∙ so_far
