-- Three-valued logic.
use Rattle.wm_base.specs.declared.truth.Truth.{Truth}
use Rattle.wm_base.specs.declared.truth.Truth.TheVariants.{Yes, No, Unknown}

-- false where one side is, true where both are, else unknown
abbrev pub truth_and : Truth → Truth → Truth
truth_and Yes other = other
truth_and No other = No
truth_and Unknown Yes = Unknown
truth_and Unknown No = No
truth_and Unknown Unknown = Unknown

-- true where one side is, false where both are, else unknown
abbrev pub truth_or : Truth → Truth → Truth
truth_or Yes other = Yes
truth_or No other = other
truth_or Unknown Yes = Yes
truth_or Unknown No = Unknown
truth_or Unknown Unknown = Unknown

-- true and false change places, and unknown stays
abbrev pub truth_not : Truth → Truth
truth_not Yes = No
truth_not No = Yes
truth_not Unknown = Unknown
