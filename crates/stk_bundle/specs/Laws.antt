-- Laws of the texts of lines and bundles.
use Rattle.std.specs.Prelude.{◌≡◌, ℕ, List}
use Rattle.stk_bundle.specs.declared.line.BundleLine.{BundleLine}
use Rattle.stk_bundle.specs.declared.stage.Stage.TheVariants as stage
use Rattle.stk_bundle.specs.Lines.{IsLine}
use Rattle.stk_bundle.specs.Bundles.{LineBlock, AreParts}

-- a text is one line at most
abbrev pub TextsAreOneLine : Type 0
TextsAreOneLine = (text : List ℕ) (l m : BundleLine) → IsLine text l → IsLine text m → l ≡ m

-- a text begins with one bundle at most
abbrev pub BundlesHaveOneReading : Type 0
BundlesHaveOneReading = (text : List ℕ) (ps qs : List LineBlock) (x y : List ℕ) → AreParts text ps stage.Ended x → AreParts text qs stage.Ended y → (ps ≡ qs) × (x ≡ y)
