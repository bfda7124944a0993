-- What the classifier of a client says.
use Rattle.std.specs.Prelude.{List, ℕ, codes}
use Rattle.std.specs.declared.alloc.Global.{Global}
use Rattle.std.specs.declared.dyn_box.DynBox.{DynBox}
use Rattle.cfg_exchange.specs.Classifiers.{Repeats, metadata_repeats}
use Rattle.cfg_imds.specs.declared.classifier.Classifier.{Classifier}
use Rattle.cfg_imds.specs.declared.classifier.Classifier.TheVariants.{Own, Boxed}

module _ {V : Type 0} {I : V → Type 0} where
  -- which attempts the one that is held repeats, by the meaning of one that was handed in
  abbrev pub repeated_by : (DynBox V Global I → Repeats) → Classifier V I → Repeats
  repeated_by boxed (Own own) = metadata_repeats own
  repeated_by boxed (Boxed b) = boxed b

  -- the name of the one that is held, by that of one that was handed in
  abbrev pub named_by : (DynBox V Global I → List ℕ) → Classifier V I → List ℕ
  named_by boxed (Own own) = codes "ImdsResponseRetryClassifier"
  named_by boxed (Boxed b) = boxed b
