mod Closing
mod Cuts
mod Fronts
mod Reading
mod Serving
mod Short
