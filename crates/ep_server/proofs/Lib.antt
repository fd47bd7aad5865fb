mod FilesGiven
mod InFolders
mod Named
mod Serving
mod Replayed
mod Gathered
mod Spelled
