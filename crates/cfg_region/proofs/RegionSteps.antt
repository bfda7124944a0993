-- The steps of a body that asks for a region.
use Rattle.std.proofs.Common.{◌≡◌, ℕ, ◌+◌, ◌<◌, ◌≤◌, List, [], ◌∷◌, Option, Some, None, refl, sym, subst, get_or, drop, length, add-one}
use Rattle.std.specs.Prelude.{Result, Ok, Err, map}
use Rattle.std.proofs.Math.Seq.{drop-cons}
use Rattle.std.proofs.Math.ListN.{drop_of_length-le}
use Rattle.cfg_world.specs.declared.asking.Asking.{Ghosts}
use Rattle.cfg_world.specs.declared.asking.Stop.{Stop}
use Rattle.cfg_world.specs.declared.asking.Stop.TheVariants.{OutOfMemory, Open}
use Rattle.cfg_world.specs.Inquiry.{Inquiry, Done, after}
use Rattle.cfg_world.specs.Follows.{Ends, Halts, Follows}
use Rattle.cfg_world.proofs.Inquiries.{ends_after, waits_first, breaks_first, ends_done, asking_steps, Leads, leads_after}
use Rattle.cfg_imds.specs.Regions.{Located}
use Rattle.cfg_imds.specs.Settles.{with_kept}
use Rattle.cfg_imds.specs.Tokens.{Token}
use Rattle.cfg_region.specs.Chains.{or_others, first_given}
use Rattle.cfg_region.specs.Environments.{Told}
use Rattle.cfg_region.specs.Sources.{Source, tree}

module _ {W : Type 0} (w : Ghosts W) (old new : W) where
  -- the token that is left is not looked at
  pub token_left : (inquiry : Inquiry Located) (kept : Option Token) (r : Result Told Stop) → Follows w inquiry old new (with_kept kept r) → Follows w (after inquiry (λ out. Done out.0)) old new r
  token_left inquiry kept (Ok region) h = ends_after (λ out. Done out.0) h ends_done
  token_left inquiry kept (Err Open) h = waits_first (λ out. Done out.0) h
  token_left inquiry kept (Err OutOfMemory) h = breaks_first (λ out. Done out.0) h

  -- the last of a chain
  pub last_follows : (asked : Inquiry Told) (r : Result Told Stop) → Follows w asked old new r → Follows w (first_given (asked ∷ [])) old new r
  unfolding first_given
  last_follows asked (Ok (Some region)) h = ends_after (or_others (first_given [])) h ends_done
  last_follows asked (Ok None) h = ends_after (or_others (first_given [])) h ends_done
  last_follows asked (Err Open) h = waits_first (or_others (first_given [])) h
  last_follows asked (Err OutOfMemory) h = breaks_first (or_others (first_given [])) h

  -- where a value that is known is none the others follow
  pub others_follow : (known : Told) (trees : List (Inquiry Told)) (r : Result Told Stop) → known ≡ None → Follows w (first_given trees) old new r → Follows w (first_given (Done known ∷ trees)) old new r
  unfolding first_given
  others_follow known trees r none h = subst (λ k. Follows w (or_others (first_given trees) k) old new r) (sym none) h

module _ {W : Type 0} {w : Ghosts W} {old : W} where
  -- a value that is known is the answer
  pub known_given : (known : Told) (trees : List (Inquiry Told)) (region : List ℕ) → known ≡ Some region → Ends w (first_given (Done known ∷ trees)) old old (Some region)
  unfolding first_given
  known_given known trees region given = subst (λ k. Ends w (or_others (first_given trees) k) old old (Some region)) (sym given) ends_done

pub ruleset region_steps = (asking_steps, known_given)

-- ---- what is left of a chain after each source

module _ {X : Type 0} (of : X → Source) where
  -- the chain of these sources
  abbrev pub chain : List X → Inquiry Told
  chain xs = first_given (map tree (map of xs))

  chain-drop : (xs : List X) (i : ℕ) (d : X) → i < length xs → chain (drop i xs) ≡ after (tree (of (get_or xs i d))) (or_others (chain (drop (i + 1) xs)))
  unfolding first_given
  chain-drop xs i d h = rw (add-one, drop-cons xs i d h) refl

  chain-end : (xs : List X) (i : ℕ) → length xs ≤ i → chain (drop i xs) ≡ Done None
  unfolding first_given
  chain-end xs i h = rw (drop_of_length-le xs h) refl

module _ {W X : Type 0} {w : Ghosts W} {old mid : W} {whole : Inquiry Told} where
  -- a source stands at this place
  at_source : (of : X → Source) (xs : List X) (i : ℕ) (x : X) → Leads w whole old mid (chain of (drop i xs)) → i < length xs → x ≡ get_or xs i x →
      Leads w whole old mid (after (tree (of x)) (or_others (chain of (drop (i + 1) xs))))
  at_source of xs i x a lt is =
      subst (λ y. Leads w whole old mid (after (tree (of y)) (or_others (chain of (drop (i + 1) xs))))) (sym is)
      (subst (λ p. Leads w whole old mid p) (chain-drop of xs i x lt) a)

  pub no_source_left : (of : X → Source) (xs : List X) (i : ℕ) → Leads w whole old mid (chain of (drop i xs)) → length xs ≤ i → Ends w whole old mid None
  no_source_left of xs i a le = (subst (λ p. Leads w whole old mid p) (chain-end of xs i le) a).ends _ _ ends_done

module _ {W X : Type 0} {w : Ghosts W} {old mid new : W} {whole : Inquiry Told} where
  pub source_none : (of : X → Source) (xs : List X) (i : ℕ) (x : X) (given : Told) → Leads w whole old mid (chain of (drop i xs)) → i < length xs → x ≡ get_or xs i x →
      Ends w (tree (of x)) mid new given → given ≡ None → Leads w whole old new (chain of (drop (i + 1) xs))
  source_none of xs i x given a lt is e none =
      subst (λ g. Leads w whole old new (or_others (chain of (drop (i + 1) xs)) g)) none
      (leads_after (or_others (chain of (drop (i + 1) xs))) (at_source of xs i x a lt is) e)

  pub source_gives : (of : X → Source) (xs : List X) (i : ℕ) (x : X) (given : Told) (region : List ℕ) → Leads w whole old mid (chain of (drop i xs)) → i < length xs → x ≡ get_or xs i x →
      Ends w (tree (of x)) mid new given → given ≡ Some region → Ends w whole old new (Some region)
  source_gives of xs i x given region a lt is e some =
      (subst (λ g. Leads w whole old new (or_others (chain of (drop (i + 1) xs)) g)) some
      (leads_after (or_others (chain of (drop (i + 1) xs))) (at_source of xs i x a lt is) e)).ends _ _ ends_done

-- a source that was stopped stops the chain
pub source_halts : {W X : Type 0} (w : Ghosts W) (old mid new : W) (whole : Inquiry Told) (of : X → Source) (xs : List X) (i : ℕ) (x : X) (stop : Stop) →
    Leads w whole old mid (chain of (drop i xs)) → i < length xs → x ≡ get_or xs i x → Halts w (tree (of x)) mid new stop → Halts w whole old new stop
source_halts w old mid new whole of xs i x Open a lt is h = (at_source of xs i x a lt is).waits _ (waits_first (or_others (chain of (drop (i + 1) xs))) h)
source_halts w old mid new whole of xs i x OutOfMemory a lt is h = (at_source of xs i x a lt is).breaks _ (breaks_first (or_others (chain of (drop (i + 1) xs))) h)
