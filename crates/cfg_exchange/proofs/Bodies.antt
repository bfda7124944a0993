-- What a body says, by whether it is UTF-8.
use Rattle.std.proofs.Common.{◌≡◌, ℕ, List, refl, sym, ap, subst, ◌∙◌}
use Rattle.std.specs.Prelude.{Result, Ok, Err, if◌then◌else◌}
use Rattle.std.specs.Str.{IsUtf8}
use Rattle.cfg_types.specs.declared.document.InvalidJsonCredentials.{InvalidJsonCredentials}
use Rattle.cfg_types.specs.declared.errors.UnhandledCause.{UnhandledCause}
use Rattle.cfg_types.specs.declared.errors.UnhandledCause.TheVariants.{NotUtf8, NoDocument}
use Rattle.cfg_json.specs.Documents.{Read}
use Rattle.cfg_json.specs.declared.credentials.JsonCredentials.{JsonCredentials}
use Rattle.cfg_exchange.specs.Documents.{document, or_no_document, body_document}
use Rattle.cfg_exchange.proofs.Utf8.{passes_utf8, fails_utf8}

abbrev Said : Type 0
Said = Result JsonCredentials UnhandledCause

abbrev not_utf8 : Said
not_utf8 = Err NotUtf8

pub body_not_utf8 : (body : List ℕ) → (IsUtf8 body → ⊥) → not_utf8 ≡ body_document body
unfolding body_document
body_not_utf8 body n = subst (λ b. not_utf8 ≡ (if b then or_no_document (document body) else not_utf8)) (fails_utf8 body n) refl

utf8_body : (body text : List ℕ) (r : Read JsonCredentials) → IsUtf8 body → text ≡ body → r ≡ document text → or_no_document r ≡ body_document body
unfolding body_document
utf8_body body text r u t d =
    ap or_no_document (d ∙ ap document t)
    ∙ subst (λ b. or_no_document (document body) ≡ (if b then or_no_document (document body) else not_utf8)) (passes_utf8 body u) refl

abbrev said_ok : JsonCredentials → Said
said_ok said = Ok said

abbrev said_err : InvalidJsonCredentials → Said
said_err error = Err (NoDocument error)

pub body_said : (body text : List ℕ) (r : Read JsonCredentials) (said : JsonCredentials) → IsUtf8 body → text ≡ body → r ≡ document text → r ≡ Ok said → said_ok said ≡ body_document body
body_said body text r said u t d e = ap or_no_document (sym e) ∙ utf8_body body text r u t d

pub body_refused : (body text : List ℕ) (r : Read JsonCredentials) (error : InvalidJsonCredentials) → IsUtf8 body → text ≡ body → r ≡ document text → r ≡ Err error → said_err error ≡ body_document body
body_refused body text r error u t d e = ap or_no_document (sym e) ∙ utf8_body body text r u t d
