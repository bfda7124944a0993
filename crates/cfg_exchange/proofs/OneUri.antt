-- A text is cut into a URI in one way.
use Rattle.std.proofs.Common.{◌≡◌, ℕ, List, ◌++◌, length, get_or, IsTrue, Option, Some, None, inl, inr, refl, sym, ap, subst, ◌∙◌, arith}
use Rattle.std.proofs.lemmas.List.{append_cancel_left}
use Rattle.http_uri.specs.ByteClasses.{is_delimiter}
use Rattle.http_uri.specs.Grammar.{IsTail, IsAbsoluteForm, IsForm, IsUriText, normal_scheme}
use Rattle.http_uri.proofs.UriLemmas.{cut_name, cut_rest, cut_authority, cut_long, cut_scheme, cut_first, IsAuthority_first, IsAuthority_no_scheme}

one_tail : (tail x y : List ℕ) → IsTail tail x → IsTail tail y → x ≡ y
one_tail tail x y (inl h) (inl k) = h.1 ∙ sym k.1
one_tail tail x y (inl h) (inr k) = let mark = subst (λ t. IsTrue (is_delimiter (get_or t 0 0))) h.0 k.0 in cc
one_tail tail x y (inr h) (inl k) = let mark = subst (λ t. IsTrue (is_delimiter (get_or t 0 0))) k.0 h.0 in cc
one_tail tail x y (inr h) (inr k) = h.2 ∙ sym k.2

module _ (text : List ℕ) where
  one_absolute : (s a k s₂ a₂ k₂ : List ℕ) → IsAbsoluteForm text s a k → IsAbsoluteForm text s₂ a₂ k₂ → (s ≡ s₂) × (a ≡ a₂) × (k ≡ k₂)
  one_absolute s a k s₂ a₂ k₂ h g =
      let name = sym (cut_name text s a k h) ∙ cut_name text s₂ a₂ k₂ g in
      let rest = sym (cut_rest text s a k h) ∙ cut_rest text s₂ a₂ k₂ g in
      let authority : a ≡ a₂ = sym (cut_authority text s a k h) ∙ rw rest (cut_authority text s₂ a₂ k₂ g) in
      let tail : h.tail ≡ g.tail = append_cancel_left a h.tail g.tail (rest ∙ ap (λ t. t ++ g.tail) (sym authority)) in
      (h.normal ∙ ap normal_scheme name ∙ sym g.normal, authority, one_tail g.tail k k₂ (subst (λ t. IsTail t k) tail h.is_tail) g.is_tail)

  one_form : (s a : Option (List ℕ)) (k : List ℕ) (s₂ a₂ : Option (List ℕ)) (k₂ : List ℕ) → IsForm text s a k → IsForm text s₂ a₂ k₂ → (s ≡ s₂) × (a ≡ a₂) × (k ≡ k₂)
  one_form None None k None None k₂ h g = (refl, refl, h.1 ∙ sym g.1)
  one_form None None k None (Some a₂) k₂ h g = absurd (elim h.0.0 [ inl star ↦ g.1 star | inr slash ↦ IsAuthority_first text g.0 slash ])
  one_form None None k (Some s₂) None k₂ h g = absurd g
  one_form None None k (Some s₂) (Some a₂) k₂ h g =
      absurd (elim h.0.0 [ inl star ↦ omega (arith, ap length star, cut_long text s₂ a₂ k₂ g) | inr slash ↦ cut_first text s₂ a₂ k₂ g slash ])
  one_form None (Some a) k None None k₂ h g = absurd (elim g.0.0 [ inl star ↦ h.1 star | inr slash ↦ IsAuthority_first text h.0 slash ])
  one_form None (Some a) k None (Some a₂) k₂ h g = (refl, ap Some (h.2 ∙ sym g.2), h.3 ∙ sym g.3)
  one_form None (Some a) k (Some s₂) None k₂ h g = absurd g
  one_form None (Some a) k (Some s₂) (Some a₂) k₂ h g = absurd (IsAuthority_no_scheme text h.0 (cut_scheme text s₂ a₂ k₂ g))
  one_form (Some s) None k s₂ a₂ k₂ h g = absurd h
  one_form (Some s) (Some a) k None None k₂ h g =
      absurd (elim g.0.0 [ inl star ↦ omega (arith, ap length star, cut_long text s a k h) | inr slash ↦ cut_first text s a k h slash ])
  one_form (Some s) (Some a) k None (Some a₂) k₂ h g = absurd (IsAuthority_no_scheme text g.0 (cut_scheme text s a k h))
  one_form (Some s) (Some a) k (Some s₂) None k₂ h g = absurd g
  one_form (Some s) (Some a) k (Some s₂) (Some a₂) k₂ h g =
      let same = one_absolute s a k s₂ a₂ k₂ h g in
      (ap Some same.0, ap Some same.1, same.2)

  pub one_uri : (s a : Option (List ℕ)) (k : List ℕ) (s₂ a₂ : Option (List ℕ)) (k₂ : List ℕ) → IsUriText text s a k → IsUriText text s₂ a₂ k₂ → (s ≡ s₂) × (a ≡ a₂) × (k ≡ k₂)
  one_uri s a k s₂ a₂ k₂ h g = one_form s a k s₂ a₂ k₂ h.1 g.1
