pub mod BuilderToReader
