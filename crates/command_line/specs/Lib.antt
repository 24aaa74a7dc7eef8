pub mod Description
pub mod PlainWords
pub use Description.{option, command_of, single_word, two, four, six, limits, region_commands, earliest_commands, latest_commands, many_commands, modeplan, IsToldToClap}
pub use PlainWords.{IsPlainWord, ArePlainWords, option_words, option_values, IsInForm}
