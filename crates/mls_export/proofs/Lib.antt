mod Places
mod FileNames
mod Steps
