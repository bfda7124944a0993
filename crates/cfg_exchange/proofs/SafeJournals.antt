-- Journals whose `Http` requests go to safe targets, and how they are put together.
use Rattle.std.proofs.Common.{◌≡◌, inl, inr, ℕ, List, [], ◌∷◌, ◌++◌, false, Option, Some, None, refl, sym, ap, subst, ◌∙◌, append-nil, append_assoc}
use Rattle.std.specs.List.{AllByRecursion}
use Rattle.cfg_types.specs.Environment.{Variables}
use Rattle.cfg_types.specs.declared.request.Request.TheVariants as request
use Rattle.cfg_world.specs.declared.ask.Question.{Question}
use Rattle.cfg_world.specs.declared.ask.Question.TheVariants as question
use Rattle.cfg_world.specs.Fits.{Pair}
use Rattle.cfg_world.specs.Inquiry.{Begun}
use Rattle.cfg_exchange.specs.declared.container.ContainerSettings.{ContainerSettings}
use Rattle.cfg_exchange.specs.declared.container.ContainerUri.{ContainerUri}
use Rattle.cfg_exchange.specs.Containers.{token_file, IsContainerUri, container}
use Rattle.cfg_exchange.specs.ContainerUnset.{IsTokenPart, IsUnset}
use Rattle.cfg_exchange.specs.ContainerRequests.{look_ups, IsSafeQuestion}
use Rattle.cfg_exchange.specs.SafeJournals.{IsSafeHttp, is_http_or_look_up, AsksNoHttp, AsksSafely}
use Rattle.cfg_exchange.proofs.SafeRequests.{requests_safe}

pub none_then : (one other : List Pair) → AsksNoHttp one → AsksNoHttp other → AsksNoHttp (one ++ other)
none_then [] other h k = k
none_then (e ∷ one) other h k = (h.0, none_then one other h.1 k)

module _ (env : Variables) (found : List Pair) where
  free_safe : (q : Question) → is_http_or_look_up q ≡ false → IsSafeHttp env found q
  free_safe (question.Send (request.Http call)) h = absurd cc
  free_safe _ h = tt

  question_safe : (q : Question) → IsSafeQuestion env found q → IsSafeHttp env found q
  question_safe (question.Send (request.Http call)) h = h
  question_safe _ h = tt

  abbrev AreSafe : List Pair → Type 0
  AreSafe part = AllByRecursion (λ e. IsSafeHttp env found e.0) part

  none_safe : (part : List Pair) → AsksNoHttp part → AreSafe part
  none_safe [] h = tt
  none_safe (e ∷ part) h = (free_safe e.0 h.0, none_safe part h.1)

  questions_safe : (part : List Pair) → AllByRecursion (λ e. IsSafeQuestion env found e.0) part → AreSafe part
  questions_safe [] h = tt
  questions_safe (e ∷ part) h = (question_safe e.0 h.0, questions_safe part h.1)

  safe_then : (one other : List Pair) → AreSafe one → AreSafe other → AreSafe (one ++ other)
  safe_then [] other h k = k
  safe_then (e ∷ one) other h k = (h.0, safe_then one other h.1 k)

module _ (env : Variables) (settings : ContainerSettings) where
  -- a container's part, whole or begun
  pub part_safely : (named : ContainerUri) (part : List Pair) → IsContainerUri env named → Begun (container env settings named) part → AsksSafely env settings part
  part_safely named part names begun = inl (record {
    before = [];
    own = part;
    behind = [];
    parts = sym (append-nil part);
    named = named;
    names = names;
    begun = begun;
    safe = questions_safe env (look_ups part) part (requests_safe env settings named names part begun);
    alone_before = tt;
    alone_behind = tt;
  })

  -- behind a part without such requests
  pub safely_behind : (first rest : List Pair) → AsksNoHttp first → AsksSafely env settings rest → AsksSafely env settings (first ++ rest)
  safely_behind first rest n (inr none) = inr (none_then first rest n none)
  safely_behind first rest n (inl s) = inl (record {
    before = first ++ s.before;
    own = s.own;
    behind = s.behind;
    parts = ap (λ t. first ++ t) s.parts ∙ sym (append_assoc first s.before (s.own ++ s.behind));
    named = s.named;
    names = s.names;
    begun = s.begun;
    safe = safe_then env (look_ups s.own) first rest (none_safe env (look_ups s.own) first n) s.safe;
    alone_before = none_then first s.before n s.alone_before;
    alone_behind = s.alone_behind;
  })

  -- before a part without such requests
  pub safely_before : (first rest : List Pair) → AsksSafely env settings first → AsksNoHttp rest → AsksSafely env settings (first ++ rest)
  safely_before first rest (inr none) n = inr (none_then first rest none n)
  safely_before first rest (inl s) n = inl (record {
    before = s.before;
    own = s.own;
    behind = s.behind ++ rest;
    parts = ap (λ t. t ++ rest) s.parts ∙ append_assoc s.before (s.own ++ s.behind) rest ∙ ap (λ t. s.before ++ t) (append_assoc s.own s.behind rest);
    named = s.named;
    names = s.names;
    begun = s.begun;
    safe = safe_then env (look_ups s.own) first rest s.safe (none_safe env (look_ups s.own) rest n);
    alone_before = s.alone_before;
    alone_behind = none_then s.behind rest s.alone_behind n;
  })

-- a container that is passed over
token_without : (file : Option (List ℕ)) (part : List Pair) → IsTokenPart file part → AsksNoHttp part
token_without (Some path) part h = subst AsksNoHttp (sym h.1) (refl, tt)
token_without None part h = subst AsksNoHttp (sym h) tt

pub unset_without : (env : Variables) (part : List Pair) → IsUnset env part → AsksNoHttp part
unset_without env part h = token_without (token_file env) part h.asks
