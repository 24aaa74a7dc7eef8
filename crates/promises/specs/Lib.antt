pub mod Runs
pub mod Accepted
pub mod Hierarchies
pub mod Searches
pub mod Settled
pub mod Compiled
pub mod Samples
pub mod Asked
pub mod Right
pub mod Answer
pub use Runs.{StaysIfNamed}
pub use Accepted.{WhatContractWritesCheckAccepts, IsBlockOf, WhatCertifyPrintsVerifyAccepts, WhatCertifyLatestPrintsVerifyLatestAccepts}
pub use Hierarchies.{CheckVerdictIsUnique}
pub use Searches.{LabelsAreUnique}
pub use Settled.{SettledIsUnique}
pub use Compiled.{IsBuilt, CompiledIsUnique}
pub use Samples.{SampleCityIsUnique, SampleCityIsFaultless, SummariesAreAlike}
pub use Asked.{WordsAskOneThing, RunsAreAsAsked}
pub use Answer.{AreWords, TellsRight, EachBlock, AsksOrTellsFault, IsPrinted, AnswerPrintsRightBlocks}
