-- What the document of an object's members says.
use Rattle.std.proofs.Common.{◌≡◌, inl, inr, List, refl, sym, ap, subst, ◌∙◌}
use Rattle.std.specs.Prelude.{Ok, Err}
use Rattle.cfg_types.specs.declared.errors.login.LoginJsonFault.TheVariants.{Document}
use Rattle.cfg_types.specs.declared.errors.login.LoginTokenError.{LoginTokenError}
use Rattle.cfg_types.specs.declared.errors.login.LoginTokenError.TheVariants.{JsonError as Json, OutOfMemory}
use Rattle.cfg_types.specs.declared.document.InvalidJsonCredentials.{InvalidJsonCredentials}
use Rattle.cfg_types.specs.declared.document.InvalidJsonCredentials.TheVariants as invalid
use Rattle.cfg_json.specs.declared.credentials.JsonCredentials.{JsonCredentials}
use Rattle.cfg_json.specs.declared.member.Member.{Member}
use Rattle.cfg_json.specs.Documents.{document_of}
use Rattle.cfg_json.specs.Documents as documents
use Rattle.cfg_login_token.specs.declared.access.AccessKeys.{AccessKeys}
use Rattle.cfg_login_token.specs.Access.{Read, UnlessMemory, SaysKeys, keys_of, fault_said}

as_said : (result answer : Read AccessKeys) → result ≡ answer → UnlessMemory result answer
as_said (Ok keys) answer h = sym h
as_said (Err e) answer h = inr (sym h)

fault_is : (e : InvalidJsonCredentials) (said : documents.Read JsonCredentials) (result : Read AccessKeys) →
    fault_said e ≡ Json Document → documents.UnlessMemory (Err e) said → SaysKeys (Err e) result → UnlessMemory result (keys_of said)
fault_is e said result f u says = elim u [
  | inl m ↦ absurd (no_memory (sym f ∙ ap fault_said m))
  | inr s ↦ as_said result (keys_of said) (says ∙ ap (λ (x : LoginTokenError). let r : Read AccessKeys = Err x in r) f ∙ ap keys_of (sym s))
]
  where
    no_memory : Json Document ≡ OutOfMemory → ⊥
    no_memory h = cc

pub document_said : (ms : List Member) (read : documents.Read JsonCredentials) (result : Read AccessKeys) → documents.UnlessMemory read (document_of ms) → SaysKeys read result → UnlessMemory result (keys_of (document_of ms))
document_said ms (Ok x) result u says = as_said result (keys_of (document_of ms)) (says ∙ ap keys_of (sym u))
document_said ms (Err (invalid.JsonError e)) result u says = fault_is (invalid.JsonError e) (document_of ms) result refl u says
document_said ms (Err (invalid.MissingField f)) result u says = fault_is (invalid.MissingField f) (document_of ms) result refl u says
document_said ms (Err (invalid.InvalidField f e)) result u says = fault_is (invalid.InvalidField f e) (document_of ms) result refl u says
document_said ms (Err (invalid.Other t)) result u says = fault_is (invalid.Other t) (document_of ms) result refl u says
document_said ms (Err invalid.OutOfMemory) result u says = subst (λ (r : Read AccessKeys). UnlessMemory r (keys_of (document_of ms))) (sym says) (inl refl)
