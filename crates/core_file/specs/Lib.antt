pub mod Files
pub mod inside
pub use Files.{FileFormat, Alone, WithCore, FileLists, core_magic, HasParts, SpellBoth, SpellFile, core_head, behind, FirstIsNone, CoreIsNone, HasNoParts, IsNoFile, IsRefusedFile}
