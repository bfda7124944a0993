-- What is left of roles behind a question for one of them.
use Rattle.std.proofs.Common.{◌≡◌, ℕ, zero, suc, List, [], ◌∷◌, ◌++◌, length, drop, Option, Some, None, Ok, Err, refl, sym, ◌∙◌, ap, subst}
use Rattle.cfg_types.specs.Keys.{Keys}
use Rattle.cfg_types.specs.Replies.{sts_in}
use Rattle.cfg_types.specs.declared.request.Request.TheVariants.{AssumeRole}
use Rattle.cfg_types.specs.declared.settings.CallSettings.{CallSettings}
use Rattle.cfg_world.specs.declared.ask.Question.{Question}
use Rattle.cfg_world.specs.declared.ask.Question.TheVariants.{Send, Now}
use Rattle.cfg_world.specs.declared.ask.Answer.{Answer as Given}
use Rattle.cfg_world.specs.Fits.{Pair}
use Rattle.cfg_world.specs.Inquiry.{Inquiry, Done, Ask, Reads, AsksNext, Begun, after, if_ok}
use Rattle.cfg_world.specs.Leaves.{clock, moment_of, granted_of, assuming}
use Rattle.cfg_world.proofs.Inquiries.{asks_first, begun_first}
use Rattle.cfg_profile.specs.declared.chain.RoleArn.{RoleArn}
use Rattle.cfg_providers.specs.AssumeRole.{role_session, request, granted, in_role, exchange, assumes, assumes_roles}
use Rattle.cfg_providers.specs.CustomSources.{Answer}
use Rattle.cfg_providers.specs.SessionNames.{session_name, default_session_name}
use Rattle.cfg_chain.specs.profile.Profiles.{marked}
use Rattle.cfg_run.specs.Roles.{signer_in, counted, roles_in, asked_before, marked_roles}

some_is : {A : Type 0} (x y : A) → Some x ≡ Some y → x ≡ y
some_is x y h = cc

not_some : {A X : Type 0} (y : A) (o : Option A) → o ≡ None → o ≡ Some y → X
not_some {A} y o none some = absurd (differs (sym none ∙ some))
  where
    differs : ◌≡◌ {A = Option A} None (Some y) → ⊥
    differs h = cc

-- What an inquiry does over a journal, another does over one too.
pub record Leads (whole : Inquiry Answer) (journal : List Pair) (left : Inquiry Answer) (rest : List Pair) : Type 0 where
  pub reads : (out : Answer) → Reads left rest out → Reads whole journal out
  pub asks : (q : Question) → AsksNext left rest q → AsksNext whole journal q

module _ (settings : CallSettings) (e : Pair) (behind : List Pair) (signer : Keys) (is : signer_in e.0 ≡ Some signer) where
  -- What is left of an inquiry over these roles, at an entry for a role.
  pub record RestOf (tree : Inquiry Answer) (roles : List RoleArn) (number : ℕ) (front : List Pair) : Type 0 where
    pub role : RoleArn
    pub more : List RoleArn
    pub there : drop number roles ≡ role ∷ more
    pub before : List Pair
    pub asked : List Pair
    pub parts : front ≡ before ++ asked
    pub few : length asked ≡ asked_before role.session_name
    pub begun : Begun (assumes_roles settings (role ∷ more) signer) (asked ++ e ∷ behind)
    pub leads : Leads tree (front ++ e ∷ behind) (assumes_roles settings (role ∷ more) signer) (asked ++ e ∷ behind)

  -- behind one question more
  one_more : (q : Question) (next : Given → Inquiry Answer) (d : Pair) (roles : List RoleArn) (number : ℕ) (front : List Pair) → d.0 ≡ q → RestOf (next d.1) roles number front → RestOf (Ask q next) roles number (d ∷ front)
  one_more q next d roles number front asks r = record {
    role = r.role;
    more = r.more;
    there = r.there;
    before = d ∷ r.before;
    asked = r.asked;
    parts = ap (λ t. d ∷ t) r.parts;
    few = r.few;
    begun = r.begun;
    leads = record { reads = λ out h. (asks, r.leads.reads out h); asks = λ t h. (asks, r.leads.asks t h) };
  }

  -- behind one role more
  one_role : (tree : Inquiry Answer) (role : RoleArn) (roles : List RoleArn) (number : ℕ) (front : List Pair) → RestOf tree roles number front → RestOf tree (role ∷ roles) (suc number) front
  one_role tree role roles number front r =
      record { role = r.role; more = r.more; there = r.there; before = r.before; asked = r.asked; parts = r.parts; few = r.few; begun = r.begun; leads = r.leads }

  -- a role and those behind it, by the name of its session
  abbrev by_name : RoleArn → List RoleArn → Keys → Option (List ℕ) → Inquiry Answer
  by_name role roles keys name = after (after (session_name role_session name) (exchange settings role keys)) (if_ok (assumes_roles settings roles))

  -- at the first of the roles
  at_first : (role : RoleArn) (roles : List RoleArn) (keys : Keys) (name : Option (List ℕ)) (asked : List Pair) → role.session_name ≡ name → keys ≡ signer → length asked ≡ asked_before name → roles_in asked ≡ zero →
      Begun (by_name role roles keys name) (asked ++ e ∷ behind) → RestOf (by_name role roles keys name) (role ∷ roles) (roles_in asked) asked
  unfolding assumes_roles assumes
  at_first role roles keys name asked named same few none begun = record {
    role = role;
    more = roles;
    there = ap (λ n. drop n (role ∷ roles)) none;
    before = [];
    asked = asked;
    parts = refl;
    few = few ∙ sym (ap asked_before named);
    begun = subst (λ n. Begun (by_name role roles signer n) (asked ++ e ∷ behind)) (sym named) (subst (λ k. Begun (by_name role roles k name) (asked ++ e ∷ behind)) same begun);
    leads = subst (λ n. Leads (by_name role roles keys name) (asked ++ e ∷ behind) (by_name role roles signer n) (asked ++ e ∷ behind)) (sym named)
        (subst (λ k. Leads (by_name role roles keys name) (asked ++ e ∷ behind) (by_name role roles k name) (asked ++ e ∷ behind)) same (record { reads = λ out h. h; asks = λ q h. h }));
  }

  -- behind a role's exchange
  granted_then : (role : RoleArn) (roles : List RoleArn) (r : Answer) (front : List Pair) →
      ((keys : Keys) (front : List Pair) → Begun (assumes_roles settings roles keys) (front ++ e ∷ behind) → RestOf (assumes_roles settings roles keys) roles (roles_in front) front) →
      Begun (if_ok (assumes_roles settings roles) r) (front ++ e ∷ behind) → RestOf (if_ok (assumes_roles settings roles) r) (role ∷ roles) (suc (roles_in front)) front
  granted_then role roles (Ok keys) front on h = one_role (assumes_roles settings roles keys) role roles (roles_in front) front (on keys front h)
  granted_then role roles (Err f) [] on h = absurd h
  granted_then role roles (Err f) (d ∷ front) on h = absurd h

  of_role : (role : RoleArn) (roles : List RoleArn) (keys : Keys) (name : Option (List ℕ)) (front : List Pair) → role.session_name ≡ name →
      ((keys : Keys) (front : List Pair) → Begun (assumes_roles settings roles keys) (front ++ e ∷ behind) → RestOf (assumes_roles settings roles keys) roles (roles_in front) front) →
      Begun (by_name role roles keys name) (front ++ e ∷ behind) → RestOf (by_name role roles keys name) (role ∷ roles) (roles_in front) front
  unfolding session_name assuming clock
  of_role role roles keys (Some name) [] named on h = at_first role roles keys (Some name) [] named (some_is keys signer (sym (ap signer_in h.0) ∙ is)) refl refl h
  of_role role roles keys (Some name) (d ∷ front) named on h =
      let next : Given → Inquiry Answer = λ a. if_ok (assumes_roles settings roles) (in_role (granted (granted_of sts_in a))) in
      let one = one_more (Send (AssumeRole (request settings role keys name))) next d (role ∷ roles) (suc (roles_in front)) front h.0 (granted_then role roles (in_role (granted (granted_of sts_in d.1))) front on h.1) in
      subst (λ n. RestOf (by_name role roles keys (Some name)) (role ∷ roles) n (d ∷ front)) (sym (ap (λ q. counted (signer_in q) (roles_in front)) h.0)) one
  of_role role roles keys None [] named on h = not_some signer (signer_in e.0) (ap signer_in h.0) is
  of_role role roles keys None (d ∷ []) named on h =
      at_first role roles keys None (d ∷ []) named (some_is keys signer (sym (ap signer_in h.1.0) ∙ is)) refl (ap (λ q. counted (signer_in q) zero) h.0) h
  of_role role roles keys None (d ∷ x ∷ front) named on h =
      let next : Given → Inquiry Answer = λ a. if_ok (assumes_roles settings roles) (in_role (granted (granted_of sts_in a))) in
      let sends : Given → Question = λ a. Send (AssumeRole (request settings role keys (default_session_name role_session (moment_of a)))) in
      let one = one_more (sends d.1) next x (role ∷ roles) (suc (roles_in front)) front h.1.0 (granted_then role roles (in_role (granted (granted_of sts_in x.1))) front on h.1.1) in
      let both = one_more Now (λ a. Ask (sends a) next) d (role ∷ roles) (suc (roles_in front)) (x ∷ front) h.0 one in
      subst (λ n. RestOf (by_name role roles keys None) (role ∷ roles) n (d ∷ x ∷ front))
      (sym (ap (λ q. counted (signer_in q) (roles_in (x ∷ front))) h.0 ∙ ap (λ q. counted (signer_in q) (roles_in front)) h.1.0)) both

  pub rest_of : (roles : List RoleArn) (keys : Keys) (front : List Pair) → Begun (assumes_roles settings roles keys) (front ++ e ∷ behind) → RestOf (assumes_roles settings roles keys) roles (roles_in front) front
  unfolding assumes_roles assumes
  rest_of [] keys [] h = absurd h
  rest_of [] keys (d ∷ front) h = absurd h
  rest_of (role ∷ roles) keys front h = of_role role roles keys role.session_name front refl (rest_of roles) h

-- ---- the credentials of the last role, marked

begun_done : {A B : Type 0} (p : Inquiry A) (f : A → B) (journal : List Pair) → Begun (after p (λ x. Done (f x))) journal → Begun p journal
begun_done (Done r) f [] h = tt
begun_done (Done r) f (e ∷ journal) h = absurd h
begun_done (Ask q next) f [] h = tt
begun_done (Ask q next) f (e ∷ journal) h = (h.0, begun_done (next e.1) f journal h.1)

pub asks_done : {A B : Type 0} (p : Inquiry A) (f : A → B) (journal : List Pair) (q : Question) → AsksNext (after p (λ x. Done (f x))) journal q → AsksNext p journal q
asks_done (Done r) f journal q h = absurd h
asks_done (Ask asked next) f [] q h = h
asks_done (Ask asked next) f (e ∷ journal) q h = (h.0, asks_done (next e.1) f journal q h.1)

pub reads_done : {A B : Type 0} (p : Inquiry A) (f : A → B) (journal : List Pair) (x : A) → Reads p journal x → Reads (after p (λ x. Done (f x))) journal (f x)
reads_done (Done r) f [] x h = ap f h
reads_done (Done r) f (e ∷ journal) x h = absurd h
reads_done (Ask q next) f [] x h = absurd h
reads_done (Ask q next) f (e ∷ journal) x h = (h.0, reads_done (next e.1) f journal x h.1)

pub done_reads : {A B : Type 0} (p : Inquiry A) (f : A → B) (journal : List Pair) (out : B) → Reads (after p (λ x. Done (f x))) journal out → (x : A) × Reads p journal x × (f x ≡ out)
done_reads (Done r) f [] out h = (r, refl, h)
done_reads (Done r) f (e ∷ journal) out h = absurd h
done_reads (Ask q next) f [] out h = absurd h
done_reads (Ask q next) f (e ∷ journal) out h = let r = done_reads (next e.1) f journal out h.1 in (r.0, (h.0, r.1), r.2)

module _ (settings : CallSettings) where
  pub begun_unmarked : (roles : List RoleArn) (keys : Keys) (journal : List Pair) → Begun (marked_roles settings roles keys) journal → Begun (assumes_roles settings roles keys) journal
  begun_unmarked roles keys journal h = begun_done (assumes_roles settings roles keys) marked journal h

  pub begun_marked : (roles : List RoleArn) (keys : Keys) (journal : List Pair) → Begun (assumes_roles settings roles keys) journal → Begun (marked_roles settings roles keys) journal
  begun_marked roles keys journal h = begun_first (assumes_roles settings roles keys) (λ last. Done (marked last)) journal h

  pub leads_marked : (roles more : List RoleArn) (keys signer : Keys) (journal rest : List Pair) → Leads (assumes_roles settings roles keys) journal (assumes_roles settings more signer) rest →
      Leads (marked_roles settings roles keys) journal (marked_roles settings more signer) rest
  leads_marked roles more keys signer journal rest leads = record {
    reads = λ out h.
        let r = done_reads (assumes_roles settings more signer) marked rest out h in
        subst (λ o. Reads (marked_roles settings roles keys) journal o) r.2 (reads_done (assumes_roles settings roles keys) marked journal r.0 (leads.reads r.0 r.1));
    asks = λ q h. asks_first (assumes_roles settings roles keys) (λ last. Done (marked last)) journal q (leads.asks q (asks_done (assumes_roles settings more signer) marked rest q h));
  }
