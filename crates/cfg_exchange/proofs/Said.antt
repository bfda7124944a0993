-- What a document of credentials says, by its grammar.
use Rattle.std.proofs.Common.{◌≡◌, ℕ, List, false, refl}
use Rattle.std.specs.Prelude.{Err}
use Rattle.cfg_types.specs.declared.document.InvalidJsonCredentials.TheVariants as invalid
use Rattle.cfg_json.specs.declared.credentials.JsonCredentials.{JsonCredentials}
use Rattle.cfg_json.specs.Documents.{Read, document_of, AnswersDocument, IsTable, is_memory}
use Rattle.cfg_json.proofs.DocumentLaws.{document_fields}
use Rattle.cfg_json.proofs.SaidLaws as laws
use Rattle.cfg_exchange.specs.Documents.{document}

pub says_one_thing : (bytes : List ℕ) (r : Read JsonCredentials) → AnswersDocument IsTable bytes r → (r ≡ Err invalid.OutOfMemory → ⊥) → r ≡ document bytes
unfolding document
says_one_thing bytes r h n = laws.says_one_thing IsTable document_of (λ ms r h. h) bytes r h n

pub said_answers : (bytes : List ℕ) → AnswersDocument IsTable bytes (document bytes)
unfolding document
said_answers bytes = laws.said_answers IsTable document_of (λ ms. refl) document_fields bytes

pub says_unless_memory : (bytes : List ℕ) (r : Read JsonCredentials) → AnswersDocument IsTable bytes r → is_memory r ≡ false → r ≡ document bytes
unfolding document
says_unless_memory bytes r h f = laws.says_unless_memory IsTable document_of (λ ms r h. h) bytes r h f
